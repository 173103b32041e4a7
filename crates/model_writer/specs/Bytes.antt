-- The shown model as bytes, part by part.
use Rattle.std.specs.Prelude.{◌≡◌, List, map, ℕ, ◌+◌, ◌*◌, ◌/◌, ◌%◌, ◌^◌, ◌≤◌, ◌<◌, length, get_or, take, set}
use Rattle.letters.specs.Editions.{first_edition, most_registers, most_functions}
use Rattle.letters.specs.declared.Header.{Header}
use Rattle.semantics.specs.Tables.{Row, Tables}
use Rattle.semantics.specs.PackedTables.{row_bytes, word_bytes, packed_row}
use Rattle.closure.specs.Limits.{most_terms}

-- ---- sizes, in bytes: those of a row and of the other numbers are `row_bytes` and `word_bytes` of crate `semantics`
-- "count of values 16 bits, count of rows 16" (SPEC 7.4)
abbrev pub counts_bytes : ℕ
counts_bytes = 2 * word_bytes

-- A model with r rows.
abbrev pub model_length : Header → ℕ → ℕ
model_length h r = counts_bytes + word_bytes * h.registers + row_bytes * r

-- Where the initial values and the rows begin at the latest; the counts and eight initial values have fewer bytes.
abbrev pub latest_place : ℕ
latest_place = 64

-- ---- what the fields of a row count in its number
-- how many values a field can hold
abbrev pub value_range : ℕ
value_range = 2 ^ first_edition.row_value

abbrev pub result_factor : ℕ
result_factor = 2 ^ first_edition.row_spare

abbrev pub row_second_factor : ℕ
row_second_factor = value_range * result_factor

abbrev pub row_first_factor : ℕ
row_first_factor = value_range * row_second_factor

abbrev pub function_factor : ℕ
function_factor = value_range * row_first_factor

-- the fields put together
abbrev pub joined_of : (f a b c : ℕ) → ℕ
joined_of f a b c = f * function_factor + a * row_first_factor + b * row_second_factor + c * result_factor

-- five bytes, one by one
abbrev pub put_five : List ℕ → ℕ → ℕ → List ℕ
put_five out at w = set (set (set (set (set out at (w / 4294967296 % 256)) (at + 1) (w / 16777216 % 256)) (at + 2) (w / 65536 % 256)) (at + 3) (w / 256 % 256))
    (at + 4) (w % 256)

-- ---- rows
-- The row of application i, by the values of its terms.
unfoldable pub row_for : (values function first second : List ℕ) → ℕ → Row
row_for values function first second i = record {
  function = get_or function i 0;
  first = get_or values (get_or first i 0) 0;
  second = get_or values (get_or second i 0) 0;
  result = get_or values i 0;
}

unfoldable pub word_for : Header → (values function first second : List ℕ) → ℕ → ℕ
word_for h values function first second i = packed_row first_edition h (row_for values function first second i)

unfoldable pub words_for : Header → (values function first second : List ℕ) → List ℕ → List ℕ
words_for h values function first second rows = map (word_for h values function first second) rows

-- Application i has its function and its values in range.
pub record RowIn (values function first second : List ℕ) (i : ℕ) : Type 0 where
  pub place : i < most_terms
  pub function_below : get_or function i 0 < most_functions
  pub first_place : get_or first i 0 < most_terms
  pub second_place : get_or second i 0 < most_terms
  pub first_below : get_or values (get_or first i 0) 0 < value_range
  pub second_below : get_or values (get_or second i 0) 0 < value_range
  pub result_below : get_or values i 0 < value_range

-- The initial values fit from `at` on.
pub record StartsFit (values : List ℕ) (registers room at : ℕ) : Type 0 where
  pub few : registers ≤ most_registers
  pub long : length values ≡ most_terms
  pub small : (k : ℕ) → k < registers → get_or values k 0 < value_range
  pub place : at ≤ latest_place
  pub fits : at + word_bytes * registers ≤ room

-- The first r rows fit from `at` on.
pub record RowsFit (values function first second rows : List ℕ) (r room at : ℕ) : Type 0 where
  pub few : r ≤ most_terms
  pub long : length rows ≡ most_terms
  pub each : (k : ℕ) → k < r → RowIn values function first second (get_or rows k 0)
  pub place : at ≤ latest_place
  pub fits : at + row_bytes * r ≤ room

-- What the arrays say, as tables.
unfoldable pub tables_in : Header → (values function first second rows : List ℕ) (count r : ℕ) → Tables
tables_in h values function first second rows count r = record {
  count = count;
  starts = take h.registers values;
  rows = map (row_for values function first second) (take r rows);
}

-- The tables fit the output.
pub record Writable (h : Header) (values function first second rows : List ℕ) (count r room : ℕ) : Type 0 where
  pub few : h.registers ≤ most_registers
  pub rows_few : r ≤ most_terms
  pub count_small : count < value_range
  pub values_long : length values ≡ most_terms
  pub rows_long : length rows ≡ most_terms
  pub starts_small : (k : ℕ) → k < h.registers → get_or values k 0 < value_range
  pub each : (k : ℕ) → k < r → RowIn values function first second (get_or rows k 0)
  pub fits : model_length h r ≤ room
