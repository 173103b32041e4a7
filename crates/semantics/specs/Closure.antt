-- "Closure: the least equivalence over computed terms that holds the equal tests and equates computed applications of one function
-- to equivalent arguments" (SPEC 3.5; document 01). U are the computed terms, E the equal tests.
use Rattle.std.specs.Prelude.{List, ℕ, ◌<◌}
use Rattle.semantics.specs.Terms.{◌∈◌, Term, app, State}

module _ (U : List Term) (E : List (Term × Term)) where
  pub data Closure : Term → Term → Type 0 where
    reflexive : {t : Term} → t ∈ U → Closure t t
    test : {s t : Term} → (s, t) ∈ E → Closure s t
    symmetric : {s t : Term} → Closure s t → Closure t s
    transitive : {s t u : Term} → Closure s t → Closure t u → Closure s u
    congruence : {f : ℕ} {a b c d : Term} → app f a b ∈ U → app f c d ∈ U → Closure a c → Closure b d → Closure (app f a b) (app f c d)

-- s and t are equal in the closure of the computed terms and the equal tests (SPEC 3.5).
abbrev pub Equivalent : State → Term → Term → Type 0
Equivalent σ s t = Closure σ.terms σ.equals s t

-- A register holds a term equal to t: t is "equal to the present value of a register" (SPEC 4).
abbrev pub Held : State → Term → Type 0
Held σ t = (r : ℕ) × (r < σ.header.registers) × Equivalent σ t (σ.value r)
