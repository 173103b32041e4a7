-- The window's tables with the registers of a mask read as others: what the loops over a table make of it.
use Rattle.std.specs.Prelude.{ℕ, ◌^◌, List, length, get_or}
use Rattle.std.specs.Int.Bits.{bit_or}
use Rattle.base.specs.Masks.{has}
use Rattle.window.specs.Table.{table}
use Rattle.window.specs.Lines.{columns, rows, united}
use Rattle.window.specs.Bits.{mask_moved}

-- each mask of the table, with the registers `to` in it if one of `from` is
unfoldable pub bits_moved : ℕ → ℕ → List ℕ → List ℕ
bits_moved from to l = table (λ i. mask_moved (get_or l i 0) from to) (length l)

-- A table of masks by register (classes, unequal pairs, computed applications), and the table of results, in which each register of `to`
-- stands for a and for b: as a line's register and in the masks, and of the results as the first and as the second argument.
unfoldable pub masks_through : ℕ → ℕ → ℕ → ℕ → List ℕ → List ℕ
masks_through ρ a b to l = bits_moved (bit_or (2 ^ a) (2 ^ b)) to (united (columns ρ) (has to) a b l)

unfoldable pub results_through : ℕ → ℕ → ℕ → ℕ → List ℕ → List ℕ
results_through ρ a b to l = bits_moved (bit_or (2 ^ a) (2 ^ b)) to (united (rows ρ) (has to) a b (united (columns ρ) (has to) a b l))
