-- Data models over any type of values whatever, finite or not (source document 000, 2.3.3): the type may lie in any universe, `Type ℓ`.
-- "Infinite models change nothing" (SPEC 3.6; document 01).
use Rattle.std.specs.Prelude.{◌≡◌, List, ℕ}
use Rattle.semantics.specs.Terms.{◌∈◌, Term, con, app, State}

pub record AnyModel {ℓ} : Type (ℓ + 1) where
  pub Value : Type ℓ
  pub start : ℕ → Value
  pub table : ℕ → Value → Value → Value

-- The value of a term.
abbrev pub eval_in {ℓ} : (M : AnyModel {ℓ}) → Term → M.Value
eval_in M (con r) = M.start r
eval_in M (app f s t) = M.table f (eval_in M s) (eval_in M t)

-- The equal tests E and the unequal tests D hold.
pub record SatisfiesIn {ℓ} (M : AnyModel {ℓ}) (E D : List (Term × Term)) : Type ℓ where
  pub equal_hold : (s t : Term) → (s, t) ∈ E → eval_in M s ≡ eval_in M t
  pub unequal_hold : (s t : Term) → (s, t) ∈ D → ¬ (eval_in M s ≡ eval_in M t)

-- Some model, over whatever values of this universe, satisfies all tests.
abbrev pub FeasibleInSomeModel {ℓ} : State → Type (ℓ + 1)
FeasibleInSomeModel σ = (M : AnyModel {ℓ}) × SatisfiesIn M σ.equals σ.unequals
