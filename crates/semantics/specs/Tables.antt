-- A data model written down as tables (SPEC 7; document 01).
use Rattle.std.specs.Prelude.{◌≡◌, Bool, ◌&&◌, List, [], ◌∷◌, ℕ, eqb, get_or}
use Rattle.base.specs.Choice.{pick}
use Rattle.semantics.specs.Terms.{Term, app}
use Rattle.semantics.specs.Models.{Model}

-- A row: a function, two arguments and the result (SPEC 7.3). The row of a function of one argument has that argument twice, as its terms do.
pub record Row : Type 0 where
  pub function : ℕ
  pub first : ℕ
  pub second : ℕ
  pub result : ℕ

-- The count of values, the initial value of each register, and the rows (SPEC 7).
pub record Tables : Type 0 where
  pub count : ℕ
  pub starts : List ℕ
  pub rows : List Row

-- ── what tables mean ──
-- The row is that of f at a and b.
abbrev pub lists : ℕ → ℕ → ℕ → Row → Bool
lists f a b r = eqb f r.function && (eqb a r.first && eqb b r.second)

-- The result of f at a and b. "Value 0 is the result for every argument not listed." (SPEC 7.3)
unfoldable pub result_in : List Row → ℕ → ℕ → ℕ → ℕ
result_in [] f a b = 0
result_in (r ∷ rs) f a b = pick (lists f a b r) (λ _. r.result) λ _. result_in rs f a b

-- The model is the one that the tables describe (SPEC 7.3).
pub record Describes (t : Tables) (M : Model) : Type 0 where
  pub count : M.count ≡ t.count
  pub start : (r : ℕ) → M.start r ≡ get_or t.starts r 0
  pub table : (f a b : ℕ) → M.table f a b ≡ result_in t.rows f a b

-- The row of an application, by the values of its terms.
abbrev pub row_of : (Term → ℕ) → ℕ → Term → Term → Row
row_of v f s t = record { function = f; first = v s; second = v t; result = v (app f s t) }
