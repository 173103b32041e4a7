use Rattle.std.proofs.Common.{arith}
use Rattle.window.proofs.Theory.Rows.{first_flags_is}
use Rattle.window.proofs.first_flags.Goals as goal

pub returns : goal.returns
returns c = rw c.from.ensures (first_flags_is c.args.mask (omega arith))
