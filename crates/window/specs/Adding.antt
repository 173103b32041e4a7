-- A new application: what the loops over a table make of it.
use Rattle.std.specs.Prelude.{Bool, cond, ◌&&◌, ℕ, ◌*◌, ◌/◌, ◌%◌, ◌^◌, List, eqb, length, get_or}
use Rattle.std.specs.Int.Bits.{bit_or}
use Rattle.base.specs.Masks.{has}
use Rattle.window.specs.Table.{table}
use Rattle.window.specs.Lines.{columns, rows, cleared}
use Rattle.window.specs.Through.{bits_moved}

unfoldable pub part_of : ℕ → ℕ → ℕ → ℕ
part_of mask what r = cond (has mask r) what 0

-- the entries of line j at the registers of the mask, with `what` added
unfoldable pub line_added : ℕ → ℕ → ℕ → ℕ → List ℕ → List ℕ
line_added ρ j mask what l = table (λ i. bit_or (get_or l i 0) (cond (eqb (i / ρ) j && has mask (i % ρ)) what 0)) (length l)

-- the results of f at each register that passes the test and each of `second`, with `what` added
unfoldable pub results_added : ℕ → (ℕ → Bool) → ℕ → ℕ → ℕ → List ℕ → List ℕ
results_added ρ P f second what l = table (λ i. bit_or (get_or l i 0) (cond ((eqb (i / (ρ * ρ)) f && P (i / ρ % ρ)) && has second (i % ρ)) what 0)) (length l)

-- x is in no mask, and has the empty one
unfoldable pub masks_forgotten : ℕ → ℕ → List ℕ → List ℕ
masks_forgotten ρ x l = cleared (columns ρ) x (bits_moved 0 (2 ^ x) l)

-- x is no argument, and holds the result of f at `first` and `second` only
unfoldable pub results_forgotten : ℕ → ℕ → ℕ → ℕ → ℕ → List ℕ → List ℕ
results_forgotten ρ x f first second l = cleared (rows ρ) x (cleared (columns ρ) x (results_added ρ (has first) f second (2 ^ x) (bits_moved 0 (2 ^ x) l)))
