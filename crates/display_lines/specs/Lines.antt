-- A line of the program `display` (SPEC 12.7; document 02, 6): `K SAID N WORD`.
use Rattle.std.specs.Prelude.{ℕ, List, [], ◌∷◌}
use Rattle.io.specs.Digits.{last_digits}
use Rattle.text.specs.Numerals.{numeral}
use Rattle.report.specs.Lines.{line, blank_word}

-- "fresh"
abbrev pub fresh_word : List ℕ
fresh_word = 102 ∷ 114 ∷ 101 ∷ 115 ∷ 104 ∷ []

-- Hexadecimal digits.
abbrev pub hex_base : ℕ
hex_base = 16

-- So many are the digits of a word of 64 bits.
abbrev pub word_digits : ℕ
word_digits = 16

-- How many letters came, what was said of the last, how many classes there are, and the unequal pairs by the word (SPEC 12.7).
unfoldable pub state_line : List ℕ → ℕ → ℕ → ℕ → List ℕ
state_line said letters classes word =
    line (numeral letters ∷ blank_word ∷ said ∷ blank_word ∷ numeral classes ∷ blank_word ∷ last_digits hex_base word_digits word ∷ [])
