-- The list of the applications that have rows, as a loop makes it.
use Rattle.std.specs.Prelude.{◌≡◌, List, map, reverse, ℕ, ◌+◌, ◌≤◌, ◌<◌, length, get_or, take}
use Rattle.closure.specs.Limits.{most_terms}
use Rattle.semantics.specs.Terms.{State}
use Rattle.semantics.specs.ShownTables.{rows_of}
use Rattle.closure.specs.Arrays.{Formed}
use Rattle.engine.specs.Engine.{Computed}
use Rattle.model_writer.specs.Meaning.{row_at}

-- What `list` asks: n terms with their classes, and room for as many rows.
pub record Listable (representative function first second : List ℕ) (registers n : ℕ) (rows : List ℕ) : Type 0 where
  pub formed : Formed representative function first second registers n
  pub room : length rows ≡ most_terms

-- All of them: the rows are those of the shown model of any state whose terms and classes these are.
pub record ListedAll (representative function first second : List ℕ) (registers n : ℕ) (rows : List ℕ) (r : ℕ) : Type 0 where
  pub few : r + registers ≤ n
  pub room : length rows ≡ most_terms
  pub entries : (k : ℕ) → k < r → (registers ≤ get_or rows k 0) × (get_or rows k 0 < n)
  pub are : (σ : State) (w : Computed σ function first second representative registers n)
      → map (row_at σ function first second representative registers n w) (take r rows) ≡ rows_of (reverse σ.terms) σ.equals
