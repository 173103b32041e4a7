-- Pairs and records as bytes in the first edition's format. A record has 192 bytes (SPEC 10.6).
use Rattle.std.specs.Prelude.{ℕ, ◌+◌, ◌-◌, ◌^◌, Bool, false, List, ◌∷◌, ◌++◌, eqb, get_or, drop, replicate}
use Rattle.base.specs.Bytes.{little_endian}
use Rattle.base.specs.Choice.{pick}
use Rattle.letters.specs.Editions.{first_edition}
use Rattle.window.specs.Table.{table}
use Rattle.window.specs.Layout.{registers, functions, results}
use Rattle.window.specs.declared.Window.{Window}
use Rattle.records.specs.Formats as formats
use Rattle.records.specs.Formats.{Format, number_bytes, content_place}
unfoldable pub use Rattle.records.specs.Formats.{flag, is_set, parent_in, branch_in, point_in, same_pair}

abbrev pub record_bytes : ℕ
record_bytes = first_edition.pair_bytes

-- Codes of four bits, two to a byte.
abbrev pub first_format : Format
first_format = record {
  registers = registers;
  functions = functions;
  mask_bytes = 1;
  code_bits = 4;
  group = 2;
  group_bytes = 1;
  groups = 128;
  size = record_bytes;
}

-- How many codes there can be.
abbrev pub code_range : ℕ
code_range = 2 ^ first_format.code_bits

abbrev pub mask_bytes : ℕ
mask_bytes = first_format.mask_bytes

abbrev pub encoded_bytes : ℕ
encoded_bytes = formats.encoded_bytes_of_format first_format

abbrev pub content_bytes : ℕ
content_bytes = formats.content_bytes_of_format first_format

-- ---- writing

-- A line of results that holds nothing, and of which nothing was ever computed.
unfoldable pub empty_line : List ℕ → ℕ → Bool
empty_line entries line = pick (eqb line 0) (λ _. eqb (little_endian entries) 0) λ _. false

-- The codes of all entries.
abbrev pub code_bytes : List ℕ → List ℕ → List ℕ
code_bytes = formats.code_bytes_in_format first_format

abbrev pub fingerprint_of : List ℕ → ℕ
fingerprint_of = formats.fingerprint_in_format first_format

-- The bytes of a pair, a point and a window.
abbrev pub encoded : ℕ → Window → List ℕ
encoded = formats.encoded_in_format first_format

-- A record: a pair, the number of the pair from which it was reached, and the branch taken there.
abbrev pub record_of : List ℕ → ℕ → ℕ → List ℕ
record_of = formats.record_in_format first_format

-- ---- reading: in bytes that begin with a record

-- The codes of all entries.
unfoldable pub codes_at : List ℕ → List ℕ
codes_at bytes = formats.codes_in first_format (formats.after_infeasible first_format (drop content_place bytes))

-- What each of the codes says of the result; those behind the classes stand for nothing.
abbrev pub meanings_of : List ℕ → List ℕ
meanings_of class = 0 ∷ 0 ∷ class ++ replicate (code_range - (2 + registers)) 0

-- The results that these codes mean.
unfoldable pub results_meant : List ℕ → List ℕ → List ℕ
results_meant meanings codes = table (λ i. get_or meanings (get_or codes i 0) 0) results

abbrev pub ever_in : List ℕ → List ℕ
ever_in = formats.ever_in_format first_format

abbrev pub window_in : List ℕ → Window
window_in = formats.window_in_format first_format
