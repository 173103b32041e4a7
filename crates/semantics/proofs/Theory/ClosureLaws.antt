-- More terms and more tests keep what is equal in the closure.
use mathlib.Core.List.Memᴰ
use mathlib.Core.List.{List, ◌∷◌}
use Rattle.semantics.specs.Terms.{◌∈◌, Term, State}
use Rattle.semantics.specs.Closure.{Closure, reflexive, symmetric, transitive, congruence, Equivalent, Held}

pub weaken : {U W : List Term} {E : List (Term × Term)} → ((t : Term) → t ∈ U → t ∈ W) → {s t : Term} → Closure U E s t → Closure W E s t
weaken h (reflexive m) = reflexive (h _ m)
weaken h (Closure.test m) = Closure.test m
weaken h (symmetric c) = symmetric (weaken h c)
weaken h (transitive c d) = transitive (weaken h c) (weaken h d)
weaken h (congruence i j p q) = congruence (h _ i) (h _ j) (weaken h p) (weaken h q)

pub more_tests : {U : List Term} {E : List (Term × Term)} (e : Term × Term) {s t : Term} → Closure U E s t → Closure U (e ∷ E) s t
more_tests e (reflexive m) = reflexive m
more_tests e (Closure.test m) = Closure.test (Memᴰ.tail m)
more_tests e (symmetric c) = symmetric (more_tests e c)
more_tests e (transitive c d) = transitive (more_tests e c) (more_tests e d)
more_tests e (congruence i j p q) = congruence i j (more_tests e p) (more_tests e q)

-- A register that holds a term holds what is equal to it.
abbrev pub held_equal : (σ : State) {s t : Term} → Held σ s → Equivalent σ s t → Held σ t
held_equal σ h c = (h.0, h.1, transitive (symmetric c) h.2)
