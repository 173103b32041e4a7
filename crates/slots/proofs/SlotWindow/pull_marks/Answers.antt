use Rattle.window.proofs.Theory.Table.{written_all}
use Rattle.slots.specs.Performing.{pulled_marks}
use Rattle.slots.proofs.SlotWindow.pull_marks.Goals as goal

pub returns : goal.returns
unfolding pulled_marks
returns c = written_all _ _ _ _ _ c.loop-r.invariant c.loop-r-test.false
