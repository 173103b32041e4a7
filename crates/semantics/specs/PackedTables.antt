-- Tables as bytes (SPEC 7.4; document 01): "count of values 16 bits, count of rows 16, each initial value 16, then rows of 40 bits:
-- function 2, argument 11, argument 11 (0 for one argument), result 11, spare 5".
use Rattle.std.specs.Prelude.{List, [], ◌∷◌, ◌++◌, map, ℕ, length}
use Rattle.letters.specs.Editions.{Edition}
use Rattle.base.specs.Choice.{pick}
use Rattle.base.specs.Masks.{has}
use Rattle.letters.specs.declared.Header.{Header}
use Rattle.letters.specs.Packing.{join}
unfoldable pub use Rattle.traces.specs.Traces.{units}
use Rattle.semantics.specs.Tables.{Row, Tables}

-- The widths of a row's fields, in bits.
abbrev pub row_widths : Edition → List ℕ
row_widths e = e.row_function ∷ e.row_value ∷ e.row_value ∷ e.row_value ∷ e.row_spare ∷ []

-- The bytes of a row, and of the other numbers.
abbrev pub row_bytes : ℕ
row_bytes = 5

abbrev pub word_bytes : ℕ
word_bytes = 2

-- The second argument as it is written: 0 for a function of one argument, whose row has its argument twice.
unfoldable pub second_written : Header → ℕ → ℕ → ℕ
second_written h f b = pick (has h.binary f) (λ _. b) λ _. 0

-- The fields of a row, the spare one 0 (SPEC 7.4).
abbrev pub row_fields : Header → Row → List ℕ
row_fields h r = r.function ∷ r.first ∷ second_written h r.function r.second ∷ r.result ∷ 0 ∷ []

-- A row as one number.
unfoldable pub packed_row : Edition → Header → Row → ℕ
packed_row w h r = join (row_widths w) (row_fields h r)

-- The tables as bytes (SPEC 7.4).
unfoldable pub pack_tables : Edition → Header → Tables → List ℕ
pack_tables w h t = units word_bytes (t.count ∷ length t.rows ∷ t.starts) ++ units row_bytes (map (packed_row w h) t.rows)
