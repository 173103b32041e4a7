use mathlib.Core.Path.{◌≡◌}
use Rattle.slots.specs.Performing.{clash_slots}
use Rattle.slots.proofs.clash.Given as goal

abbrev pub invariant-loop-s : goal.invariant-loop-s
invariant-loop-s l = l.bad ≡ clash_slots l.unequal l.s
