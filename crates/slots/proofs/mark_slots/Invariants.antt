use mathlib.Core.Bool.{false}
use Rattle.window.proofs.Theory.Table.{Swept}
use Rattle.slots.proofs.Theory.Loops.{marked_at}
use Rattle.slots.proofs.mark_slots.Given as goal

abbrev pub invariant-loop-r : goal.invariant-loop-r
invariant-loop-r l = Swept (marked_at l.slot l.initial.mark l.slots) false l.initial.mark l.r l.mark
