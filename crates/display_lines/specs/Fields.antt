-- The fields of a line in its template: a name holds eight digits of a word.
use Rattle.std.specs.Prelude.{◌≡◌, ℕ, ◌/◌, ◌<◌, List, [], ◌∷◌}
use Rattle.base.specs.Bytes.{byte_values}
use Rattle.io.specs.Digits.{last_digits}
use Rattle.tokens.specs.Bytes.{spelling}
use Rattle.window.specs.declared.Window.{Window}
use Rattle.display_lines.specs.Lines.{hex_base}
use Rattle.display_lines.specs.Display.{displayed_word}

-- How many digits a name has.
abbrev pub name_digits : ℕ
name_digits = 8

-- Where the digits of a word's first half begin.
abbrev pub half_word : ℕ
half_word = 4294967296

-- The letters, the classes, and the digits of the word, in two names.
pub record StateFields (letters : ℕ) (w : Window) (fields : List ℕ) : Type 0 where
  pub few : w.classes < byte_values
  pub fields_are : fields ≡ letters ∷ w.classes ∷ spelling (last_digits hex_base name_digits (displayed_word w / half_word))
      ∷ spelling (last_digits hex_base name_digits (displayed_word w)) ∷ []
