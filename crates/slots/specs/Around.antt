-- The slots that hold a result at a pair of slots, of any function and in either order: one table, kept along with the table of results, from which
-- the marks are found.
use Rattle.std.specs.Prelude.{◌≡◌, ◌⊎◌, ◌↔◌, List, ℕ, ◌+◌, ◌*◌, ◌/◌, ◌%◌, ◌<◌, T, length, get_or}
use Rattle.std.specs.Int.Bits.{bit_or}
use Rattle.base.specs.Masks.{has}
use Rattle.window.specs.Places.{place}
use Rattle.window.specs.Table.{table}
use Rattle.window.specs.Marks.{union_of}
use Rattle.slots.specs.Slots.{Slots, Laid}

module _ (ρ φ : ℕ) where
  -- a slot is in the entry of a pair exactly if it holds a result at the two, in either order; bits from ρ on are free, and a mask of the code has none
  pub record Around (l t : List ℕ) : Type 0 where
    pub long : length t ≡ ρ * ρ
    pub holds : (a b c : ℕ) → a < ρ → b < ρ → c < ρ
        → T (has (get_or t (ρ * a + b) 0) c) ↔ ((f : ℕ) × (f < φ) × (T (has (get_or l (place ρ f a b) 0) c) ⊎ T (has (get_or l (place ρ f b a) 0) c)))

  -- ---- the table, made

  unfoldable pub around_of : List ℕ → List ℕ
  around_of l = table (λ k. bit_or (union_of l k (ρ * ρ) φ) (union_of l (ρ * (k % ρ) + k / ρ) (ρ * ρ) φ)) (ρ * ρ)

  -- what is kept along with slots: the lengths of their arrays, a slot for each register, and the table of pairs
  pub record WellKept (w : Slots) (t : List ℕ) : Type 0 where
    pub laid : Laid ρ φ w.slot w.regs w.unequal w.result w.ever w.mark
    pub around : Around w.result t
