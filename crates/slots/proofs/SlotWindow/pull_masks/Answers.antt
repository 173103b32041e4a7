use native.Mathlib.Omega.{arith}
use Rattle.window.proofs.Theory.Table.{written_all}
use Rattle.slots.specs.Performing.{pulled_masks}
use Rattle.slots.proofs.SlotWindow.pull_masks.Goals as goal

pub returns : goal.returns
unfolding pulled_masks
returns c = written_all _ _ _ _ _ c.loop-k.invariant (omega (arith, c.loop-k-test.false, c.loop-k.invariant.long))
