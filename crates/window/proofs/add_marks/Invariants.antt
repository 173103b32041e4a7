use Rattle.std.proofs.Common.{◌||◌, false, get_or}
use Rattle.base.specs.Masks.{has}
use Rattle.window.proofs.Theory.Table.{Swept}
use Rattle.window.proofs.add_marks.Given as goal

abbrev pub invariant-loop-r : goal.invariant-loop-r
invariant-loop-r l = Swept (λ k. get_or l.fn.mark k false || has l.s k) false l.fn.mark l.r l.mark
