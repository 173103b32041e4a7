use Rattle.window.specs.Layout.{registers}
use Rattle.std.proofs.Math.Nat.{min-eq_left, min-eq_right}
use Rattle.std.proofs.Math.Dec.{ltb}
use Rattle.base.proofs.Theory.Choice.{by_test}
use Rattle.std.proofs.Common.{arith}
use borrow.Author.Tests.{ltb-true, ltb-false}
use Rattle.window.specs.Counting.{count_at_start}
use Rattle.window.proofs.count_at_start.Goals as goal

pub returns : goal.returns
unfolding count_at_start
returns c = rw c.min.ensures (by_test (ltb c.args.declared registers)
    (λ t. rw t (min-eq_left (omega (arith, ltb-true _ _ t))))
    (λ t. rw t (min-eq_right (ltb-false _ _ t))))
