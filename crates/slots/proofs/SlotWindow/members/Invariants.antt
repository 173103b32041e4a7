use mathlib.Core.Path.{◌≡◌}
use Rattle.window.specs.Layout.{registers}
use Rattle.slots.specs.Performing.{members_of}
use Rattle.slots.proofs.SlotWindow.members.Given as goal

abbrev pub invariant-loop-r : goal.invariant-loop-r
invariant-loop-r l = l.m ≡ members_of registers l.self.slot l.count l.s l.r
