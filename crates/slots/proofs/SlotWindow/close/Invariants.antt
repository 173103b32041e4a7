use mathlib.Core.Path.{◌≡◌}
use Prim.Native.Nat.{◌+◌, ◌-◌}
use Rattle.window.specs.Layout.{registers, functions, register_pairs}
use Rattle.slots.specs.Performing.{closed_slots}
use Rattle.slots.proofs.SlotWindow.close.Given as goal

abbrev pub invariant-loop-turn : goal.invariant-loop-turn
invariant-loop-turn l =
    closed_slots registers functions (register_pairs + 1 - l._turn) l.self ≡ closed_slots registers functions (register_pairs + 1) l.initial.self
