use mathlib.Core.Path.{◌≡◌}
use Rattle.window.specs.Layout.{registers}
use Rattle.slots.specs.Performing.{grouped_of}
use Rattle.slots.proofs.SlotWindow.grouped.Given as goal

abbrev pub invariant-loop-s : goal.invariant-loop-s
invariant-loop-s l = l.fine ≡ grouped_of registers l.self.slot l.self.regs l.count l.s
