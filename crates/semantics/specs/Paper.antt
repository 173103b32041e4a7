-- Source document 000's own relations, over all terms, computed or not (section 3 and Definition 5). SPEC 1.4 lists the differences.
use Rattle.std.specs.Prelude.{◌⊎◌, List, ℕ, ◌<◌}
use Rattle.letters.specs.declared.Letter.{Letter}
use Rattle.letters.specs.declared.Letter.TheVariants.{Copy, Apply, Equal, Unequal}
use Rattle.semantics.specs.Terms.{◌∈◌, Term, app, State, Trace, begin, ◌▸◌, state}

-- "The congruence closure of A is the smallest congruence containing A." SPEC 3.5 has it among computed terms.
pub data Congruent (A : List (Term × Term)) : Term → Term → Type 0 where
  same : {t : Term} → Congruent A t t
  member : {s t : Term} → (s, t) ∈ A → Congruent A s t
  turned : {s t : Term} → Congruent A s t → Congruent A t s
  joined : {s t u : Term} → Congruent A s t → Congruent A t u → Congruent A s u
  applied : {f : ℕ} {a b c d : Term} → Congruent A a c → Congruent A b d → Congruent A (app f a b) (app f c d)

-- The first term stands in the second, below its root: the second is a proper superterm of the first. The source document leaves open whether
-- a term is its own superterm. It makes no difference to Definition 5: a term equal to t_x or t_y modulo ≅ is held, by x or by y.
pub data ProperSubterm (t : Term) : Term → Type 0 where
  first : {f : ℕ} {b : Term} → ProperSubterm t (app f t b)
  second : {f : ℕ} {a : Term} → ProperSubterm t (app f a t)
  in_first : {f : ℕ} {a b : Term} → ProperSubterm t a → ProperSubterm t (app f a b)
  in_second : {f : ℕ} {a b : Term} → ProperSubterm t b → ProperSubterm t (app f a b)

-- "t₂ is a superterm of t₁ modulo ≅ if there are terms t₁', t₂' such that t₁' ≅ t₁, t₂' ≅ t₂ and t₂' is a superterm of t₁'." Beside it: SPEC 4.1.
pub record SupertermModulo (A : List (Term × Term)) (t s : Term) : Type 0 where
  pub lower : Term
  pub upper : Term
  pub at_lower : Congruent A lower t
  pub at_upper : Congruent A upper s
  pub within : ProperSubterm lower upper

-- "There must exist some y such that Comp(σ, y) ≅ t." Beside it: SPEC 4.
abbrev pub HeldModulo : State → Term → Type 0
HeldModulo σ t = (r : ℕ) × (r < σ.header.registers) × Congruent σ.equals (σ.value r) t

-- Definition 5, Memoizing (SPEC 4.2): "If there is a term t' ∈ Terms(σ) such that t' ≅ t, then there must exist some y such that Comp(σ, y) ≅ t."
abbrev pub MemoizingModulo : State → ℕ → ℕ → ℕ → Type 0
MemoizingModulo σ f y z =
    (s : Term) → s ∈ σ.terms → Congruent σ.equals s (app f (σ.value y) (σ.value z)) → HeldModulo σ (app f (σ.value y) (σ.value z))

-- Definition 5, Early Assumes: "If there is a term t' ∈ Terms(σ) such that t' is either a superterm of t_x or of t_y modulo ≅,
-- then there must exist a variable z such that Comp(σ, z) ≅ t'." It asks nothing of the arguments of t'; SPEC 4.3 does (SPEC 4.4).
abbrev pub EarlyModulo : State → ℕ → ℕ → Type 0
EarlyModulo σ x y =
    (s : Term) → s ∈ σ.terms → SupertermModulo σ.equals (σ.value x) s ⊎ SupertermModulo σ.equals (σ.value y) s → HeldModulo σ s

-- Definition 5, beside SPEC 4.2 to 4.6.
abbrev pub CoherentLetterModulo : State → Letter → Type 0
CoherentLetterModulo σ (Copy x y) = Unit {0}
CoherentLetterModulo σ (Apply x f y z) = MemoizingModulo σ f y z
CoherentLetterModulo σ (Equal x y) = EarlyModulo σ x y
CoherentLetterModulo σ (Unequal x y) = Unit {0}

abbrev pub CoherentModulo : Trace → Type 0
CoherentModulo (begin h) = Unit {0}
CoherentModulo (ρ ▸ a) = CoherentModulo ρ × CoherentLetterModulo (state ρ) a
