-- Coherence of traces (SPEC 4; document 01; source document 000, Definition 5, with the stricter early rule of document 01 and the milder one of
-- request 3 for sides that are equal already).
use Rattle.std.specs.Prelude.{◌⊎◌, List, ℕ, ◌<◌}
use Rattle.letters.specs.declared.Letter.{Letter}
use Rattle.letters.specs.declared.Letter.TheVariants.{Copy, Apply, Equal, Unequal}
use Rattle.semantics.specs.Terms.{◌∈◌, Term, app, Trace, begin, ◌▸◌, State, after, state}
use Rattle.semantics.specs.Closure.{Closure, Equivalent, Held}

module _ (U : List Term) (E : List (Term × Term)) where
  -- "Superterm modulo closure: reached from a term's class by computed applications, in any argument, one or more times." (SPEC 4.1)
  pub data Superterm (t : Term) : Term → Type 0 where
    once : {s a b : Term} {f : ℕ} → app f a b ∈ U → Closure U E t a ⊎ Closure U E t b → Closure U E (app f a b) s → Superterm t s
    again : {u s a b : Term} {f : ℕ} → Superterm t u → app f a b ∈ U → Closure U E u a ⊎ Closure U E u b → Closure U E (app f a b) s → Superterm t s

  -- "An application lies above a term if one of its arguments equals the term or a superterm of it": here the arguments are a and b (SPEC 4.1).
  abbrev pub Above : Term → Term → Term → Type 0
  Above t a b = (Closure U E t a ⊎ Superterm t a) ⊎ (Closure U E t b ⊎ Superterm t b)

-- Each computed application above t has "its result and all its arguments equal to present values of registers" (SPEC 4.3).
abbrev pub Kept : State → Term → Type 0
Kept σ t = (f : ℕ) (a b : Term) → app f a b ∈ σ.terms → Above σ.terms σ.equals t a b → Held σ (app f a b) × Held σ a × Held σ b

-- The condition on equal tests of sides that are not equal already: "each computed application above either side must have its result and all its
-- arguments equal to present values of registers" (SPEC 4.3).
abbrev pub Early : State → ℕ → ℕ → Type 0
Early σ x y = Kept σ (σ.value x) × Kept σ (σ.value y)

-- The condition on applications: "an application whose term is already equal to a computed one needs a register that holds
-- an equal term just before the letter." Equal is meant in the closure in which the term is computed, that after the letter (SPEC 4.2).
abbrev pub Memoizing : State → ℕ → ℕ → ℕ → ℕ → Type 0
Memoizing σ x f y z =
    (s : Term) → s ∈ σ.terms → Equivalent (after σ (Apply x f y z)) (app f (σ.value y) (σ.value z)) s
    → (r : ℕ) × (r < σ.header.registers) × Equivalent (after σ (Apply x f y z)) (app f (σ.value y) (σ.value z)) (σ.value r)

-- The letter is coherent in the state. "An equal test whose two sides are equal in the closure before it is always coherent" (document 02, request 3);
-- any other has to be early. "Unequal tests never affect coherence", and copies do not (SPEC 4.2, 4.3, 4.5).
abbrev pub CoherentLetter : State → Letter → Type 0
CoherentLetter σ (Copy x y) = Unit {0}
CoherentLetter σ (Apply x f y z) = Memoizing σ x f y z
CoherentLetter σ (Equal x y) = Equivalent σ (σ.value x) (σ.value y) ⊎ Early σ x y
CoherentLetter σ (Unequal x y) = Unit {0}

-- Every letter is coherent. Feasibility plays no part: "Coherence is judged on infeasible traces too." (SPEC 4.5, 4.6)
abbrev pub Coherent : Trace → Type 0
Coherent (begin h) = Unit {0}
Coherent (ρ ▸ a) = Coherent ρ × CoherentLetter (state ρ) a
