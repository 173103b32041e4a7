-- Tables read from bytes (SPEC 7.4), and when packing keeps all of them.
use Rattle.std.specs.Prelude.{List, [], ◌∷◌, map, ℕ, zero, suc, ◌+◌, ◌*◌, ◌^◌, ◌<◌, take, drop, replicate, get_or, length, ◌≡◌}
use Rattle.letters.specs.Editions.{Edition}
use Rattle.letters.specs.Packing.{join, split, total}
use Rattle.base.specs.Choice.{pick}
use Rattle.base.specs.Masks.{has}
use Rattle.letters.specs.declared.Header.{Header}
use Rattle.semantics.specs.Tables.{Row, Tables}
use Rattle.semantics.specs.PackedTables.{row_widths, row_bytes, word_bytes}
use Rattle.letters.specs.Letters.{arity}
use Rattle.semantics.specs.Terms.{◌∈◌}

-- The first m numbers of k bytes each.
unfoldable pub units_in : ℕ → ℕ → List ℕ → List ℕ
units_in k zero s = []
units_in k (suc m) s = join (replicate k 8) (take k s) ∷ units_in k m (drop k s)

-- The second argument that is meant, where f, a and b are written.
unfoldable pub second_meant : Header → ℕ → ℕ → ℕ → ℕ
second_meant h f a b = pick (has h.binary f) (λ _. b) λ _. a

-- ── reading ──
unfoldable pub row_from : Edition → Header → ℕ → Row
row_from w h n =
    let fields = split (row_widths w) n in
    record {
      function = get_or fields 0 0;
      first = get_or fields 1 0;
      second = second_meant h (get_or fields 0 0) (get_or fields 1 0) (get_or fields 2 0);
      result = get_or fields 3 0;
    }

unfoldable pub read_tables : Edition → Header → List ℕ → Tables
read_tables w h s =
    let words = units_in word_bytes (2 + h.registers) s in
    record {
      count = get_or words 0 0;
      starts = drop 2 words;
      rows = map (row_from w h) (units_in row_bytes (get_or words 1 0) (drop (word_bytes * (2 + h.registers)) s));
    }

-- Tables for a header that fit these widths.
pub record Packable (w : Edition) (h : Header) (t : Tables) : Type 0 where
  pub width : total (row_widths w) ≡ 8 * row_bytes
  pub registers : length t.starts ≡ h.registers
  pub count_fits : t.count < 2 ^ (8 * word_bytes)
  pub rows_fit : length t.rows < 2 ^ (8 * word_bytes)
  pub starts_fit : (n : ℕ) → n ∈ t.starts → n < 2 ^ (8 * word_bytes)
  pub function_fits : (r : Row) → r ∈ t.rows → r.function < 2 ^ w.row_function
  pub first_fits : (r : Row) → r ∈ t.rows → r.first < 2 ^ w.row_value
  pub second_fits : (r : Row) → r ∈ t.rows → r.second < 2 ^ w.row_value
  pub result_fits : (r : Row) → r ∈ t.rows → r.result < 2 ^ w.row_value
  -- the row of a function of one argument has it twice
  pub twice : (r : Row) → r ∈ t.rows → arity h r.function ≡ 1 → r.second ≡ r.first
