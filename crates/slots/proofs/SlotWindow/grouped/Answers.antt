use Rattle.window.specs.Layout.{registers}
use Rattle.slots.specs.Performing.{grouped_of}
use Rattle.slots.proofs.Theory.Pulls.{at_end}
use Rattle.slots.proofs.SlotWindow.grouped.Goals as goal

pub returns : goal.returns
returns c = at_end (grouped_of registers _ _ _) _ _ _ c.loop-s.auto.s-end c.loop-s-test.false c.loop-s.invariant
