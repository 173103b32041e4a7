use mathlib.Core.Path.{◌≡◌}
use Prim.Native.Nat.{◌-◌}
use Rattle.window.specs.Layout.{registers}
use Rattle.slots.specs.Performing.{free_from}
use Rattle.slots.proofs.SlotWindow.free_slot.Given as goal

abbrev pub invariant-loop-s : goal.invariant-loop-s
invariant-loop-s l = free_from l.self-inside.regs l.s (registers - l.s) ≡ free_from l.self-inside.regs 0 registers
