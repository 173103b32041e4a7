-- Masks of registers: which registers are in what the machine's operations make of them.
use Rattle.std.specs.Prelude.{Bool, cond, ℕ, eqb, ltb}
use Rattle.std.specs.Int.Bits.{bit_and, bit_or, bit_xor}
use Rattle.base.specs.LeastAndSize.{least_in}

-- the mask m without the registers of n
unfoldable pub minus : ℕ → ℕ → ℕ
minus m n = bit_xor (bit_or m n) n

-- some register is in the mask
unfoldable pub nonempty : ℕ → ℕ → Bool
nonempty ρ m = ltb (least_in ρ m) ρ

-- ---- a mask in which the registers `to` become one with those of `from`

unfoldable pub mask_moved : ℕ → ℕ → ℕ → ℕ
mask_moved m from to = cond (eqb (bit_and m from) 0) (minus m to) (bit_or m to)
