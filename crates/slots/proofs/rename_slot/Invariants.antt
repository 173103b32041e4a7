use Rattle.window.proofs.Theory.Table.{Swept}
use Rattle.slots.proofs.Theory.Loops.{renamed_at}
use Rattle.slots.proofs.rename_slot.Given as goal

abbrev pub invariant-loop-s : goal.invariant-loop-s
invariant-loop-s l = Swept (renamed_at l.fn.slot l.a l.b) 0 l.fn.slot l.s-index l.slot
