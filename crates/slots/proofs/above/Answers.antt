use Rattle.window.proofs.Theory.Table.{written_all}
use Rattle.slots.specs.Performing.{above_slots}
use Rattle.slots.proofs.above.Goals as goal

pub returns : goal.returns
unfolding above_slots
returns c = written_all _ _ _ _ _ c.loop-h.invariant c.loop-h-test.false
