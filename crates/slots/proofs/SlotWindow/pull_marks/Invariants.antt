use mathlib.Core.Bool.{false, ◌&&◌}
use lib.ListN.{get_or}
use Rattle.base.proofs.Theory.Written.{WrittenUpTo}
use Rattle.window.specs.Layout.{registers}
use Rattle.slots.specs.Performing.{has_slot}
use Rattle.slots.proofs.SlotWindow.pull_marks.Given as goal

abbrev pub invariant-loop-r : goal.invariant-loop-r
invariant-loop-r l =
    let w = l.self in
    WrittenUpTo (λ k. has_slot w.slot w.regs k && get_or w.mark k false) false registers l.r l.m-items
