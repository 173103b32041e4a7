use Rattle.window.specs.Layout.{registers}
use Rattle.std.proofs.Common.{arith}
use borrow.Author.Tests.{lt-ltb, le-ltb}
use Rattle.window.specs.Counting.{one_more}
use Rattle.window.proofs.one_more.Goals as goal

pub returns-then-from-lt-REGISTERS : goal.returns-then-from-lt-REGISTERS
unfolding one_more
returns-then-from-lt-REGISTERS c = rw (lt-ltb c.args.count registers (omega arith)) (omega arith)

pub returns : goal.returns
unfolding one_more
returns c = rw (le-ltb c.args.count registers (omega arith))
