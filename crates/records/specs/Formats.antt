-- Pairs as bytes: a point still to be performed and a window (SPEC 10.2), over any format of a record.
-- A record has the number of the pair from which it was reached, the branch taken there, a fingerprint, so that pairs that differ mostly do so at the start,
-- and what stands for the point and the window; all numbers with the most significant byte first, and 0 beyond them.
use Rattle.std.specs.Prelude.{◌≡◌, Bool, true, false, List, [], ◌∷◌, ◌++◌, map, ℕ, ◌+◌, ◌-◌, ◌*◌, ◌/◌, ◌%◌, ◌^◌, ◌≤◌, eqb, get_or, drop, replicate}
use Rattle.std.specs.Int.Bits.{bit_xor}
use Rattle.base.specs.Choice.{pick}
use Rattle.semantics.specs.PackedTables.{units}
use Rattle.semantics.specs.TablesRead.{units_in}
use Rattle.window.specs.Table.{table}
use Rattle.window.specs.Counting.{counted_classes}
use Rattle.window.specs.declared.Window.{Window}
use Rattle.records.specs.Words.{fingerprint_word_bytes, words_in}
use Rattle.records.specs.Codes.{code_at, class_of_code, computed_of, assembled, gathered, scattered}

pub record Format : Type 0 where
  pub registers : ℕ
  pub functions : ℕ
  -- the bytes of a mask of registers
  pub mask_bytes : ℕ
  -- the bits of a code, how many codes stand together, in how many bytes, and how many such groups there are
  pub code_bits : ℕ
  pub group : ℕ
  pub group_bytes : ℕ
  pub groups : ℕ
  -- the bytes of a record
  pub size : ℕ

-- ---- sizes and places, in bytes

-- a pair's number, a fingerprint, a point
abbrev pub number_bytes : ℕ
number_bytes = 2

-- a branch, a flag
abbrev pub flag_bytes : ℕ
flag_bytes = 1

-- where the branch stands in a record, behind the parent
abbrev pub branch_place : ℕ
branch_place = number_bytes

-- where the pair begins
abbrev pub pair_place : ℕ
pair_place = branch_place + flag_bytes

-- where what stands for the point and the window begins, behind the fingerprint
abbrev pub content_place : ℕ
content_place = pair_place + number_bytes

module _ (f : Format) where
  -- the entries of `ever`, and of the table of results
  abbrev pub lines_of_format : ℕ
  lines_of_format = f.functions * f.registers

  abbrev pub results_of_format : ℕ
  results_of_format = f.functions * f.registers * f.registers

  -- the masks of all registers
  abbrev pub masks_bytes : ℕ
  masks_bytes = f.mask_bytes * f.registers

  -- point, classes, unequal pairs, marks, infeasible, codes
  abbrev pub content_bytes_of_format : ℕ
  content_bytes_of_format = number_bytes + (masks_bytes + (masks_bytes + (f.registers + (flag_bytes + f.group_bytes * f.groups))))

  -- the fingerprint in front of them
  abbrev pub encoded_bytes_of_format : ℕ
  encoded_bytes_of_format = number_bytes + content_bytes_of_format

  -- The widths fit.
  pub record WidthsFit : Type 0 where
    pub masks : 8 * f.mask_bytes ≡ f.registers
    pub names : 2 + f.registers ≤ 2 ^ f.code_bits
    pub grouped : f.group * f.code_bits ≡ 8 * f.group_bytes
    pub counted : f.group * f.groups ≡ results_of_format
    pub fits : pair_place + encoded_bytes_of_format ≤ f.size

-- ---- writing

unfoldable pub flag : Bool → ℕ
flag b = pick b (λ _. 1) λ _. 0

-- A fingerprint is made of the whole words of what it stands for; any function of them would do. What has been mixed is turned by seven bits before the next
-- word is added without carries, and two bytes of a product with an odd number spread what is left.
abbrev pub mix : ℕ → ℕ → ℕ
mix h word = bit_xor (h % 2 ^ 57 * 128 + h / 2 ^ 57 % 128) word

unfoldable pub mixed : ℕ → List ℕ → ℕ
mixed h [] = h
mixed h (word ∷ words) = mixed (mix h word) words

abbrev pub spread : ℕ → ℕ
spread h = (h / 4294967296 % 4294967296 + h % 4294967296) % 4294967296 * 2654435761 / 4294967296 % 65536

module _ (f : Format) where
  unfoldable pub codes_of : List ℕ → List ℕ → List ℕ
  codes_of result ever = table (code_at f.registers result ever) (results_of_format f)

  -- The codes of all entries as bytes.
  unfoldable pub code_bytes_in_format : List ℕ → List ℕ → List ℕ
  code_bytes_in_format result ever = units f.group_bytes (gathered f.group f.code_bits f.groups (codes_of result ever))

  -- What stands for a point and a window.
  unfoldable pub content_of : ℕ → Window → List ℕ
  content_of point w =
      units number_bytes (point ∷ []) ++ (units f.mask_bytes w.class ++ (units f.mask_bytes w.unequal ++ (units flag_bytes (map flag w.mark)
      ++ (units flag_bytes (flag w.infeasible ∷ []) ++ code_bytes_in_format w.result w.ever))))

  unfoldable pub fingerprint_in_format : List ℕ → ℕ
  fingerprint_in_format content = spread (mixed 0 (words_in (content_bytes_of_format f / fingerprint_word_bytes) content))

  -- A pair: the fingerprint, and what stands for the point and the window.
  unfoldable pub encoded_in_format : ℕ → Window → List ℕ
  encoded_in_format point w = units number_bytes (fingerprint_in_format (content_of point w) ∷ []) ++ content_of point w

  -- A record: the number of the pair from which this one was reached, the branch taken there, and the pair; 0 beyond them.
  unfoldable pub record_in_format : List ℕ → ℕ → ℕ → List ℕ
  record_in_format pair parent branch = units number_bytes (parent ∷ []) ++ (units flag_bytes (branch ∷ []) ++
      (pair ++ replicate (f.size - (pair_place + encoded_bytes_of_format f)) 0))

-- ---- reading: in bytes that begin with a record

-- The number of so many bytes at the front.
abbrev pub number_in : ℕ → List ℕ → ℕ
number_in k s = get_or (units_in k 1 s) 0 0

unfoldable pub parent_in : List ℕ → ℕ
parent_in bytes = number_in number_bytes bytes

unfoldable pub branch_in : List ℕ → ℕ
branch_in bytes = number_in flag_bytes (drop branch_place bytes)

unfoldable pub point_in : List ℕ → ℕ
point_in bytes = number_in number_bytes (drop content_place bytes)

unfoldable pub is_set : ℕ → Bool
is_set x = eqb x 1

-- Whether the second list begins with the first.
unfoldable pub same_front : List ℕ → List ℕ → Bool
same_front [] ys = true
same_front (x ∷ xs) [] = false
same_front (x ∷ xs) (y ∷ ys) = pick (eqb y x) (λ _. same_front xs ys) λ _. false

-- Whether the record's pair is this one.
unfoldable pub same_pair : List ℕ → List ℕ → Bool
same_pair pair bytes = same_front pair (drop pair_place bytes)

module _ (f : Format) where
  -- where the parts of a window stand behind the content's start
  abbrev pub after_point : List ℕ → List ℕ
  after_point s = drop number_bytes s

  abbrev pub after_class : List ℕ → List ℕ
  after_class s = drop (masks_bytes f) (after_point s)

  abbrev pub after_unequal : List ℕ → List ℕ
  after_unequal s = drop (masks_bytes f) (after_class s)

  abbrev pub after_marks : List ℕ → List ℕ
  after_marks s = drop f.registers (after_unequal s)

  abbrev pub after_infeasible : List ℕ → List ℕ
  after_infeasible s = drop flag_bytes (after_marks s)

  -- The codes in their bytes.
  unfoldable pub codes_in : List ℕ → List ℕ
  codes_in s = scattered f.group f.code_bits (units_in f.group_bytes f.groups s)

  unfoldable pub results_in_format : List ℕ → List ℕ → List ℕ
  results_in_format class codes = table (λ i. class_of_code class (get_or codes i 0)) (results_of_format f)

  -- Line j of `ever`.
  unfoldable pub ever_mask : List ℕ → ℕ → ℕ
  ever_mask codes j = assembled (λ b. computed_of (get_or codes (f.registers * j + b) 0)) 0 f.registers

  unfoldable pub ever_in_format : List ℕ → List ℕ
  ever_in_format codes = table (ever_mask codes) (lines_of_format f)

  -- The window in what stands for a point and a window. The number of classes is no part of a record, since it follows from them (SPEC 5.8).
  unfoldable pub window_from : List ℕ → Window
  window_from s =
      let class = units_in f.mask_bytes f.registers (after_point s) in
      let codes = codes_in (after_infeasible s) in
      record {
        class = class;
        unequal = units_in f.mask_bytes f.registers (after_class s);
        result = results_in_format class codes;
        ever = ever_in_format codes;
        mark = map is_set (units_in flag_bytes f.registers (after_unequal s));
        infeasible = is_set (number_in flag_bytes (after_marks s));
        classes = counted_classes f.registers class;
      }

  unfoldable pub window_in_format : List ℕ → Window
  window_in_format bytes = window_from (drop content_place bytes)
