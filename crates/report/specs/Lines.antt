-- The lines of the verdict program (SPEC 12.2; document 01), from names, a header and a verdict to bytes. Bytes are ASCII codes.
use Rattle.std.specs.Prelude.{ℕ, ◌+◌, List, [], ◌∷◌, ◌++◌, length}
use Rattle.base.specs.Choice.{pick}
use Rattle.base.specs.Masks.{has}
use Rattle.letters.specs.declared.Header.{Header}
use Rattle.letters.specs.declared.Letter.{Letter}
use Rattle.letters.specs.declared.Letter.TheVariants.{Copy, Apply, Equal, Unequal}
use Rattle.semantics.specs.Tables.{Row, Tables}
use Rattle.semantics.specs.PackedTables.{second_written}
use Rattle.text.specs.Numerals.{numeral}

-- The bytes of the name of each register and of each function.
pub record Names : Type 0 where
  pub register : ℕ → List ℕ
  pub function : ℕ → List ℕ

-- What is printed: a verdict with its number of pairs and what it shows, or a refusal, its number and its place (SPEC 12.2).
pub data Printed : Type 0 where
  pass : ℕ → Printed
  incoherent : ℕ → List Letter → Printed
  fail : ℕ → List Letter → Tables → Printed
  refused : ℕ → ℕ → Printed

-- ── words ──
-- "verdict "
abbrev pub verdict_word : List ℕ
verdict_word = 118 ∷ 101 ∷ 114 ∷ 100 ∷ 105 ∷ 99 ∷ 116 ∷ 32 ∷ []

-- "pass"
abbrev pub pass_word : List ℕ
pass_word = 112 ∷ 97 ∷ 115 ∷ 115 ∷ []

-- "fail"
abbrev pub fail_word : List ℕ
fail_word = 102 ∷ 97 ∷ 105 ∷ 108 ∷ []

-- "coherent"
abbrev pub coherent_word : List ℕ
coherent_word = 99 ∷ 111 ∷ 104 ∷ 101 ∷ 114 ∷ 101 ∷ 110 ∷ 116 ∷ []

-- "incoherent"
abbrev pub incoherent_word : List ℕ
incoherent_word = 105 ∷ 110 ∷ 99 ∷ 111 ∷ 104 ∷ 101 ∷ 114 ∷ 101 ∷ 110 ∷ 116 ∷ []

-- "pairs "
abbrev pub pairs_word : List ℕ
pairs_word = 112 ∷ 97 ∷ 105 ∷ 114 ∷ 115 ∷ 32 ∷ []

-- "letters "
abbrev pub letters_word : List ℕ
letters_word = 108 ∷ 101 ∷ 116 ∷ 116 ∷ 101 ∷ 114 ∷ 115 ∷ 32 ∷ []

-- "values "
abbrev pub values_word : List ℕ
values_word = 118 ∷ 97 ∷ 108 ∷ 117 ∷ 101 ∷ 115 ∷ 32 ∷ []

-- "start "
abbrev pub start_word : List ℕ
start_word = 115 ∷ 116 ∷ 97 ∷ 114 ∷ 116 ∷ 32 ∷ []

-- "row "
abbrev pub row_word : List ℕ
row_word = 114 ∷ 111 ∷ 119 ∷ 32 ∷ []

-- "refused "
abbrev pub refused_word : List ℕ
refused_word = 114 ∷ 101 ∷ 102 ∷ 117 ∷ 115 ∷ 101 ∷ 100 ∷ 32 ∷ []

-- " at "
abbrev pub at_word : List ℕ
at_word = 32 ∷ 97 ∷ 116 ∷ 32 ∷ []

-- " := "
abbrev pub becomes_word : List ℕ
becomes_word = 32 ∷ 58 ∷ 61 ∷ 32 ∷ []

-- "assume "
abbrev pub assume_word : List ℕ
assume_word = 97 ∷ 115 ∷ 115 ∷ 117 ∷ 109 ∷ 101 ∷ 32 ∷ []

-- " = "
abbrev pub equals_word : List ℕ
equals_word = 32 ∷ 61 ∷ 32 ∷ []

-- " != "
abbrev pub differs_word : List ℕ
differs_word = 32 ∷ 33 ∷ 61 ∷ 32 ∷ []

-- " "
abbrev pub blank_word : List ℕ
blank_word = 32 ∷ []

-- "("
abbrev pub opening_word : List ℕ
opening_word = 40 ∷ []

-- ","
abbrev pub comma_word : List ℕ
comma_word = 44 ∷ []

-- ")"
abbrev pub closing_word : List ℕ
closing_word = 41 ∷ []

-- ── lines ──
-- A line: its pieces, and a line feed (SPEC 12.1).
unfoldable pub line : List (List ℕ) → List ℕ
line [] = 10 ∷ []
line (piece ∷ pieces) = piece ++ line pieces

-- "A refusal is one line, `refused 9 at 17`." (SPEC 12.1)
abbrev pub refused_line : ℕ → ℕ → List ℕ
refused_line number place = line (refused_word ∷ numeral number ∷ at_word ∷ numeral place ∷ [])

-- The lines of each entry of a list, one after the other.
unfoldable pub lines_of : {A : Type 0} → (A → List ℕ) → List A → List ℕ
lines_of f [] = []
lines_of f (x ∷ l) = f x ++ lines_of f l

-- "`start` with register and value", for register r and those behind it, by their names (SPEC 12.2).
unfoldable pub start_lines : (ℕ → List ℕ) → ℕ → List ℕ → List ℕ
start_lines register r [] = []
start_lines register r (value ∷ values) = line (start_word ∷ register r ∷ blank_word ∷ numeral value ∷ []) ++ start_lines register (r + 1) values

-- "`row` with function, two arguments, result", the second argument 0 for a function of one, as in the packed bytes (SPEC 12.2).
unfoldable pub row_line : (ℕ → List ℕ) → Header → Row → List ℕ
row_line function h r =
    let second = second_written h r.function r.second in
    line (row_word ∷ function r.function ∷ blank_word ∷ numeral r.first ∷ blank_word ∷ numeral second ∷ blank_word ∷ numeral r.result ∷ [])

-- "`verdict` and pass, fail or incoherent. `pairs` and how many" (SPEC 12.2).
unfoldable pub verdict_lines : List ℕ → ℕ → List ℕ
verdict_lines word pairs = line (verdict_word ∷ word ∷ []) ++ line (pairs_word ∷ numeral pairs ∷ [])

module _ (names : Names) (h : Header) where
  -- "each letter as its statement without `;`, a test after `assume`": `a := b`, `a := f(b)`, `a := f(b,c)`, `assume a = b`, `assume a != b` (SPEC 12.2).
  unfoldable pub letter_line : Letter → List ℕ
  letter_line (Copy x y) = line (names.register x ∷ becomes_word ∷ names.register y ∷ [])
  letter_line (Apply x f y z) =
      pick (has h.binary f)
      (λ _. line (names.register x ∷ becomes_word ∷ names.function f ∷ opening_word ∷ names.register y ∷ comma_word ∷ names.register z ∷ closing_word ∷ []))
      λ _. line (names.register x ∷ becomes_word ∷ names.function f ∷ opening_word ∷ names.register y ∷ closing_word ∷ [])
  letter_line (Equal x y) = line (assume_word ∷ names.register x ∷ equals_word ∷ names.register y ∷ [])
  letter_line (Unequal x y) = line (assume_word ∷ names.register x ∷ differs_word ∷ names.register y ∷ [])

  -- "`letters`, their count, each letter" (SPEC 12.2).
  unfoldable pub letter_lines : List Letter → List ℕ
  letter_lines letters = line (letters_word ∷ numeral (length letters) ∷ []) ++ lines_of letter_line letters

  -- "`values` and their count", the start lines and the rows (SPEC 12.2).
  unfoldable pub model_lines : Tables → List ℕ
  model_lines t = line (values_word ∷ numeral t.count ∷ []) ++ (start_lines names.register 0 t.starts ++ lines_of (row_line names.function h) t.rows)

  -- The whole report (SPEC 12.2).
  unfoldable pub report : Printed → List ℕ
  report (Printed.pass pairs) = verdict_lines pass_word pairs
  report (Printed.incoherent pairs letters) = verdict_lines incoherent_word pairs ++ letter_lines letters
  report (Printed.fail pairs letters tables) = verdict_lines fail_word pairs ++ (letter_lines letters ++ model_lines tables)
  report (Printed.refused number place) = refused_line number place
