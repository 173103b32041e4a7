-- A term or a superterm of it, as one relation: reached by computed applications zero or more times.
use mathlib.Core.Logic.{◌⊎◌, inl, inr}
use mathlib.Core.List.{List}
use Prim.Native.Nat.{ℕ}
use Rattle.semantics.specs.Terms.{◌∈◌, Term, app, State}
use Rattle.semantics.specs.Closure.{Closure, symmetric, transitive}
use Rattle.semantics.specs.Coherence.{Superterm, once, again, Above}

pub data Climb (U : List Term) (E : List (Term × Term)) (t : Term) : Term → Type 0 where
  from : {s : Term} → Closure U E t s → Climb U E t s
  up : {u s a b : Term} {f : ℕ} → Climb U E t u → app f a b ∈ U → Closure U E u a ⊎ Closure U E u b → Closure U E (app f a b) s → Climb U E t s

abbrev pub Reaches : State → Term → Term → Type 0
Reaches σ t s = Climb σ.terms σ.equals t s

pub reaches_equal : {U : List Term} {E : List (Term × Term)} {t r s : Term} → Climb U E t r → Closure U E r s → Climb U E t s
reaches_equal (from c) e = from (transitive c e)
reaches_equal (up r m d c) e = up r m d (transitive c e)

module _ {U : List Term} {E : List (Term × Term)} where
  superterm_climbs : {t s : Term} → Superterm U E t s → Climb U E t s
  superterm_climbs (once m (inl d) c) = up (from d) m (inl (transitive (symmetric d) d)) c
  superterm_climbs (once m (inr d) c) = up (from d) m (inr (transitive (symmetric d) d)) c
  superterm_climbs (again h m d c) = up (superterm_climbs h) m d c

  pub climbs : {t s : Term} → Closure U E t s ⊎ Superterm U E t s → Climb U E t s
  climbs (inl c) = from c
  climbs (inr h) = superterm_climbs h

  pub climbed : {t s : Term} → Climb U E t s → Closure U E t s ⊎ Superterm U E t s
  climbed (from c) = inl c
  climbed {t} (up {u} {s} {a} {b} {f} r m d c) = inr (go (climbed r))
    where
      go : Closure U E t u ⊎ Superterm U E t u → Superterm U E t s
      go (inl e) = once m (elim d [ inl k ↦ inl (transitive e k) | inr k ↦ inr (transitive e k) ]) c
      go (inr h) = again h m d c

  pub above_climbs : {t a b : Term} → Above U E t a b → Climb U E t a ⊎ Climb U E t b
  above_climbs (inl h) = inl (climbs h)
  above_climbs (inr h) = inr (climbs h)

  pub climbs_above : {t a b : Term} → Climb U E t a ⊎ Climb U E t b → Above U E t a b
  climbs_above (inl h) = inl (climbed h)
  climbs_above (inr h) = inr (climbed h)
