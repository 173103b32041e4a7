use Rattle.std.proofs.Common.{◌≡◌}
use Rattle.base.specs.Each.{each_up_to}
use Rattle.engine.proofs.begin.Given as goal

abbrev pub invariant-loop-i : goal.invariant-loop-i
invariant-loop-i l = (l.representative ≡ each_up_to (λ i _. i) l.i l.fn.representative) × (l.value ≡ each_up_to (λ i _. i) l.i l.fn.value)
