-- Marks: what lies above a register by held results, and the registers below a class that is lost.
use Rattle.std.specs.Prelude.{Bool, false, cond, ◌||◌, ℕ, zero, suc, ◌+◌, ◌*◌, ◌^◌, List, get_or}
use Rattle.std.specs.Int.Bits.{bit_and, bit_or}
use Rattle.base.specs.Masks.{has}
use Rattle.window.specs.Table.{table}
use Rattle.window.specs.Bits.{nonempty}

-- ---- definitions, as the loops compute them

-- the union of k entries, `step` apart
unfoldable pub union_of : List ℕ → ℕ → ℕ → ℕ → ℕ
union_of t start step zero = 0
union_of t start step (suc k) = bit_or (union_of t start step k) (get_or t (start + k * step) 0)

module _ (ρ : ℕ) where
  -- for each register, the registers that hold a result with it as an argument
  unfoldable pub above_of : List ℕ → List ℕ
  above_of t = table (λ h. bit_or (union_of t (ρ * h) 1 ρ) (union_of t h ρ ρ)) ρ

  -- the mask of h, empty if `hits` is
  unfoldable pub flag_of : ℕ → ℕ → ℕ
  flag_of hits h = cond (nonempty ρ hits) (2 ^ h) 0

  -- the registers below k that have one of s directly above them
  unfoldable pub below_of : List ℕ → ℕ → ℕ → ℕ
  below_of up s zero = 0
  below_of up s (suc k) = bit_or (below_of up s k) (flag_of (bit_and (get_or up k 0) s) k)

  -- the registers below k with which x is an argument of a held result
  unfoldable pub beside_of : List ℕ → ℕ → ℕ → ℕ
  beside_of t x zero = 0
  beside_of t x (suc k) = bit_or (beside_of t x k) (flag_of (bit_or (get_or t (ρ * x + k) 0) (get_or t (ρ * k + x) 0)) k)

  -- the set s with the registers directly below it, n times over
  unfoldable pub passes : List ℕ → ℕ → ℕ → ℕ
  passes up zero s = s
  passes up (suc n) s = passes up n (bit_or s (below_of up s ρ))

  -- the registers of the seed and those that have one of them above; each pass but the last adds a register
  unfoldable pub raised_of : List ℕ → ℕ → ℕ
  raised_of up seed = passes up (2 ^ ρ) seed

  unfoldable pub marked_with : List Bool → ℕ → List Bool
  marked_with l s = table (λ i. get_or l i false || has s i) ρ

module _ (ρ φ : ℕ) where
  -- for each pair of registers, the classes that hold a result of any function at the two
  unfoldable pub folded_of : List ℕ → List ℕ
  folded_of l = table (λ i. union_of l i (ρ * ρ) φ) (ρ * ρ)

  -- the registers below a result that has x as an argument or that x holds, and those below `more`
  unfoldable pub lost_of : List ℕ → ℕ → ℕ → ℕ
  lost_of l x more =
      raised_of ρ (above_of ρ (folded_of l))
      (bit_or (bit_or (bit_or (below_of ρ (above_of ρ (folded_of l)) (2 ^ x) ρ) (beside_of ρ (folded_of l) x ρ)) (flag_of ρ (get_or (above_of ρ
      (folded_of l)) x 0) x)) more)
