-- A table of registers by registers, one list: its lines, with an entry for each of ρ registers, by the second register (columns) or by the first (rows),
-- and what is done along each line.
use Rattle.std.specs.Prelude.{Bool, cond, ℕ, ◌+◌, ◌*◌, ◌/◌, ◌%◌, List, eqb, length, get_or}
use Rattle.std.specs.Int.Bits.{bit_or}
use Rattle.window.specs.Table.{table}

module _ (ρ : ℕ) where
  pub record TableLines : Type 0 where
    -- the line that entry i is on, and its place there, a register
    pub line : ℕ → ℕ
    pub along : ℕ → ℕ
    -- the entry of a line at a register
    pub entry : ℕ → ℕ → ℕ

  -- the entries from ρ j on are a line
  abbrev pub columns : TableLines
  columns = record { line = λ i. i / ρ; along = λ i. i % ρ; entry = λ j d. ρ * j + d }

  -- the entries of one function and one second register are a line
  abbrev pub rows : TableLines
  rows = record { line = λ i. ρ * (i / (ρ * ρ)) + i % ρ; along = λ i. i / ρ % ρ; entry = λ j d. ρ * ρ * (j / ρ) + ρ * d + j % ρ }

module _ {ρ : ℕ} (L : TableLines ρ) where
  -- the entry at register d of the line of entry i
  abbrev pub entry_on_line : ℕ → ℕ → ℕ
  entry_on_line i d = L.entry (L.line i) d

  -- along each line, the entries of the registers that pass the test are the union of those of a and b
  unfoldable pub united_at : (ℕ → Bool) → ℕ → ℕ → List ℕ → ℕ → ℕ
  united_at P a b l i = cond (P (L.along i)) (bit_or (get_or l (entry_on_line i a) 0) (get_or l (entry_on_line i b) 0)) (get_or l i 0)

  unfoldable pub united : (ℕ → Bool) → ℕ → ℕ → List ℕ → List ℕ
  united P a b l = table (united_at P a b l) (length l)

  -- along each line, the entry of x is empty
  unfoldable pub cleared_at : ℕ → List ℕ → ℕ → ℕ
  cleared_at x l i = cond (eqb (L.along i) x) 0 (get_or l i 0)

  unfoldable pub cleared : ℕ → List ℕ → List ℕ
  cleared x l = table (cleared_at x l) (length l)
