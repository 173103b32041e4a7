use Rattle.window.proofs.Theory.Table.{written_all}
use Rattle.slots.specs.Performing.{pulled_classes}
use Rattle.slots.proofs.SlotWindow.pull_classes.Goals as goal

pub returns : goal.returns
unfolding pulled_classes
returns c = written_all _ _ _ _ _ c.loop-r.invariant c.loop-r-test.false
