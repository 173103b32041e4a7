-- What the numbering and the rows of the shown model are, without a way to compute them (SPEC 7.2, 7.3; document 01).
use Rattle.std.specs.Prelude.{◌≡◌, ◌↔◌, List, ◌∷◌, ◌++◌, reverse, ℕ, suc, ◌≤◌, ◌<◌, length, get_or}
use Rattle.semantics.specs.Terms.{◌∈◌, Term, con, app, State}
use Rattle.semantics.specs.Closure.{Closure}
use Rattle.semantics.specs.Models.{Model, Satisfies}
use Rattle.semantics.specs.Tables.{Row, Tables, Describes, row_of}

-- The values of the terms l are exactly the numbers 1 to c.
abbrev pub Filled : (Term → ℕ) → List Term → ℕ → Type 0
Filled value l c = (k : ℕ) → ((1 ≤ k) × (k ≤ c)) ↔ ((t : Term) × (t ∈ l) × (value t ≡ k))

-- "Classes of computed terms get values 1, 2, .. by first computed term": value numbers the classes of the terms U, the oldest first, by 1 to c (SPEC 7.2).
pub record Numbering (U : List Term) (E : List (Term × Term)) (value : Term → ℕ) (c : ℕ) : Type 0 where
  -- terms have equal values exactly if they are equal in the closure
  pub equal : (s t : Term) → s ∈ U → t ∈ U → (value s ≡ value t) ↔ Closure U E s t
  -- the values are exactly 1 to c
  pub all : Filled value U c
  -- the first term of a class gets the next value: those before it have exactly the values below
  pub next : (before after : List Term) (t : Term) → U ≡ before ++ t ∷ after → ((s : Term) → s ∈ before → ¬ Closure U E s t)
      → (k : ℕ) × (value t ≡ suc k) × Filled value before k

-- "One row for each distinct application, in order of first computation." (SPEC 7.3)
pub record RowListing (U : List Term) (value : Term → ℕ) (rows : List Row) : Type 0 where
  -- the rows are those of the computed applications
  pub computed : (r : Row) → r ∈ rows → (f : ℕ) × (s : Term) × (t : Term) × (app f s t ∈ U) × (r ≡ row_of value f s t)
  pub complete : (f : ℕ) (s t : Term) → app f s t ∈ U → row_of value f s t ∈ rows
  -- no row has the function and the arguments of one before it
  pub distinct : (earlier later : List Row) (r : Row) → rows ≡ earlier ++ r ∷ later → (q : Row) → q ∈ earlier
      → ¬ ((q.function ≡ r.function) × (q.first ≡ r.first) × (q.second ≡ r.second))
  -- a row is that of an application before which only applications of earlier rows are computed
  pub ordered : (earlier later : List Row) (r : Row) → rows ≡ earlier ++ r ∷ later
      → (before : List Term) × (after : List Term) × (f : ℕ) × (s : Term) × (t : Term) × (U ≡ before ++ app f s t ∷ after) × (r ≡ row_of value f s t)
      × ((g : ℕ) (u w : Term) → app g u w ∈ before → row_of value g u w ∈ earlier)

-- The shown tables for n registers, computed terms U, the oldest first, and equal tests E, all as one statement. A well-formed
-- trace has one such table only (SPEC 7.2, 7.3; `ShownUnique.tables-unique`).
pub record IsShown (n : ℕ) (U : List Term) (E : List (Term × Term)) (t : Tables) : Type 0 where
  pub value : Term → ℕ
  pub classes : ℕ
  pub numbering : Numbering U E value classes
  -- value 0, "the result for every argument not listed", is counted too (SPEC 7.2, 7.3)
  pub count : t.count ≡ suc classes
  -- each register's initial value, in order
  pub registers : length t.starts ≡ n
  pub starts : (r : ℕ) → r < n → get_or t.starts r 0 ≡ value (con r)
  pub listing : RowListing U value t.rows

-- The tables that are shown for a state, and the model that they describe, in which all its tests hold (SPEC 7).
pub record ShownModel (σ : State) (t : Tables) : Type 0 where
  pub tables : IsShown σ.header.registers (reverse σ.terms) σ.equals t
  pub model : Model
  pub described : Describes t model
  pub satisfies : Satisfies model σ.equals σ.unequals
