-- The model that tables describe, where all that they give is below their count.
use mathlib.Core.Path.{refl}
use Prim.Native.Nat.{ℕ, ◌<◌}
use lib.ListN.{get_or}
use Rattle.semantics.specs.Terms.{◌∈◌}
use Rattle.semantics.specs.Tables.{Row, Tables, lists, result_in, Describes}
use mathlib.Core.Bool.{true, false}
use mathlib.Core.List.Memᴰ
use mathlib.Core.List.{List, [], ◌∷◌}
use Rattle.base.specs.Choice.{pick}
use Rattle.semantics.specs.Models.{Model}

-- All that the tables give is below the count, 0 too.
pub record InRange (t : Tables) : Type 0 where
  pub default : 0 < t.count
  pub starts : (r : ℕ) → get_or t.starts r 0 < t.count
  pub rows : (r : Row) → r ∈ t.rows → r.result < t.count

pub result_below : (rs : List Row) (n f a b : ℕ) → 0 < n → ((r : Row) → r ∈ rs → r.result < n) → result_in rs f a b < n
unfolding result_in
result_below [] n f a b z h = z
result_below (r ∷ rs) n f a b z h = elim (lists f a b r) as (λ k. pick k (λ _. r.result) (λ _. result_in rs f a b) < n)
    [ true ↦ h r (Memᴰ.head (λ i. r)) | false ↦ result_below rs n f a b z (λ s m. h s (Memᴰ.tail m)) ]

-- The model that the tables describe.
unfoldable pub model_of : (t : Tables) → InRange t → Model
model_of t i = record {
  count = t.count;
  start = λ r. get_or t.starts r 0;
  table = result_in t.rows;
  start_below = i.starts;
  table_below = λ f a b p q. result_below t.rows t.count f a b i.default i.rows;
}

pub described_by : (t : Tables) (i : InRange t) → Describes t (model_of t i)
unfolding model_of
described_by t i = record { count = refl; start = λ r. refl; table = λ f a b. refl }
