-- The registers that name their class: "A class is named by its lowest-numbered register" (SPEC 5.1).
use Rattle.std.specs.Prelude.{cond, List, ℕ, zero, suc, ◌^◌, eqb, get_or}
use Rattle.std.specs.Int.Bits.{bit_or}
use Rattle.base.specs.LeastAndSize.{least_in}

module _ (ρ : ℕ) where
  -- of the registers below k those that are the lowest of their class
  unfoldable pub naming_below : List ℕ → ℕ → ℕ
  naming_below class zero = 0
  naming_below class (suc k) = bit_or (naming_below class k) (cond (eqb (least_in ρ (get_or class k 0)) k) (2 ^ k) 0)

  -- of all registers
  unfoldable pub naming_registers : List ℕ → ℕ
  naming_registers class = naming_below class ρ
