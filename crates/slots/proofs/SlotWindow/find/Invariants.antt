use mathlib.Core.Path.{◌≡◌}
use Prim.Native.Nat.{◌-◌}
use Rattle.window.specs.Layout.{registers, results}
use Rattle.slots.specs.Performing.{find_slots}
use Rattle.slots.proofs.SlotWindow.find.Given as goal

abbrev pub invariant-loop-k : goal.invariant-loop-k
invariant-loop-k l =
    let w = l.self in
    find_slots registers w.slot w.regs w.result l.k (results - l.k) ≡ find_slots registers w.slot w.regs w.result 0 results
