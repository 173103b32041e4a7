use lib.ListN.{get_or}
use Rattle.base.specs.Choice.{pick}
use Rattle.base.proofs.Theory.Written.{WrittenUpTo}
use Rattle.window.specs.Layout.{registers}
use Rattle.slots.specs.Slots.{slot_of}
use Rattle.slots.specs.Performing.{has_slot}
use Rattle.slots.proofs.SlotWindow.pull_classes.Given as goal

abbrev pub invariant-loop-r : goal.invariant-loop-r
invariant-loop-r l =
    let w = l.self in
    WrittenUpTo (λ k. pick (has_slot w.slot w.regs k) (λ _. get_or w.regs (slot_of w.slot k) 0) λ _. 0) 0 registers l.r l.m-items
