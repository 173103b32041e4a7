use Rattle.window.proofs.Theory.Table.{written_all}
use Rattle.slots.specs.Performing.{pulled_results}
use Rattle.slots.proofs.SlotWindow.pull_results.Goals as goal

pub returns : goal.returns
unfolding pulled_results
returns c = written_all _ _ _ _ _ c.loop-k.invariant c.loop-k-test.false
