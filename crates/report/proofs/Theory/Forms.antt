-- Each line as a template with its fields.
use mathlib.Core.Path.{◌≡◌, refl, sym, ◌∙◌}
use mathlib.Core.Bool.{Bool, true, false}
use Prim.Native.Nat.{ℕ, ◌/◌, ◌%◌}
use mathlib.Core.List.{List, [], ◌∷◌}
use lib.ListN.{get_or}
use Rattle.letters.specs.Editions.{first_edition}
use Rattle.base.specs.Masks.{has}
use Rattle.semantics.specs.PackedTables.{second_written}
use Rattle.letters.specs.declared.Header.{Header}
use Rattle.letters.specs.declared.Letter.{Letter}
use Rattle.letters.specs.declared.Letter.TheVariants.{Copy, Apply, Equal, Unequal}
use Rattle.semantics.specs.TablesRead.{row_from}
use Rattle.text.specs.Numerals.{numeral}
use Rattle.text.specs.Names.{name_text}
use Rattle.text.specs.Templates.{part, filled_in}
use Rattle.report.specs.Lines.{pass_word, incoherent_word, fail_word, verdict_word, pairs_word, letters_word, values_word, start_word, refused_word, at_word}
use Rattle.report.specs.Lines.{blank_word, line, letter_line, row_line}
use Rattle.report.specs.Shown.{names_of}
use Rattle.report.proofs.Theory.ShownLaws.{second_read}

module _ (registers functions : List ℕ) (h : Header) where
  -- "0 := 1"
  pub copy_form : {l : Letter} {x y : ℕ} → l ≡ Copy x y → letter_line (names_of registers functions) h l ≡ filled_in (48 ∷ 32 ∷ 58 ∷ 61 ∷ 32 ∷ 49 ∷ 10 ∷ [])
      (get_or registers x 0 ∷ get_or registers y 0 ∷ 0 ∷ 0 ∷ [])
  unfolding letter_line row_line line filled_in part
  copy_form e = rw e

  -- "assume 0 = 1"
  pub equal_form : {l : Letter} {x y : ℕ} → l ≡ Equal x y → letter_line (names_of registers functions) h l ≡ filled_in
      (97 ∷ 115 ∷ 115 ∷ 117 ∷ 109 ∷ 101 ∷ 32 ∷ 48 ∷ 32 ∷ 61 ∷ 32 ∷ 49 ∷ 10 ∷ []) (get_or registers x 0 ∷ get_or registers y 0 ∷ 0 ∷ 0 ∷ [])
  unfolding letter_line row_line line filled_in part
  equal_form e = rw e

  -- "assume 0 != 1"
  pub unequal_form : {l : Letter} {x y : ℕ} → l ≡ Unequal x y → letter_line (names_of registers functions) h l ≡ filled_in
      (97 ∷ 115 ∷ 115 ∷ 117 ∷ 109 ∷ 101 ∷ 32 ∷ 48 ∷ 32 ∷ 33 ∷ 61 ∷ 32 ∷ 49 ∷ 10 ∷ []) (get_or registers x 0 ∷ get_or registers y 0 ∷ 0 ∷ 0 ∷ [])
  unfolding letter_line row_line line filled_in part
  unequal_form e = rw e

-- the names of an application's registers and of its function
pub record ApplicationNames (registers functions : List ℕ) (x f y z a b c d : ℕ) : Type 0 where
  pub target : a ≡ get_or registers x 0
  pub function : b ≡ get_or functions f 0
  pub first : c ≡ get_or registers y 0
  pub second : d ≡ get_or registers z 0

module _ {registers functions : List ℕ} (h : Header) {x f y z a b c d : ℕ} (names : ApplicationNames registers functions x f y z a b c d)
    {takes_two : Bool} (said : takes_two ≡ has h.binary f) where
  -- "0 := 1(2,3)"
  pub two_form : takes_two ≡ true
      → letter_line (names_of registers functions) h (Apply x f y z)
      ≡ filled_in (48 ∷ 32 ∷ 58 ∷ 61 ∷ 32 ∷ 49 ∷ 40 ∷ 50 ∷ 44 ∷ 51 ∷ 41 ∷ 10 ∷ []) (a ∷ b ∷ c ∷ d ∷ [])
  unfolding letter_line line filled_in part
  two_form e = rw (sym said ∙ e, names.target, names.function, names.first, names.second)

  -- "0 := 1(2)"
  pub one_form : takes_two ≡ false
      → letter_line (names_of registers functions) h (Apply x f y z) ≡ filled_in (48 ∷ 32 ∷ 58 ∷ 61 ∷ 32 ∷ 49 ∷ 40 ∷ 50 ∷ 41 ∷ 10 ∷ []) (a ∷ b ∷ c ∷ d ∷ [])
  unfolding letter_line line filled_in part
  one_form e = rw (sym said ∙ e, names.target, names.function, names.first)

-- "row 0 5 6 7", of a row that is packed in a number
pub row_form : (functions : List ℕ) (h : Header) (n : ℕ) {a b : ℕ} → a ≡ get_or functions (n / 274877906944 % 4) 0
    → b ≡ second_written h (n / 274877906944 % 4) (n / 65536 % 2048)
    → row_line (λ f. name_text (get_or functions f 0)) h (row_from first_edition h n)
    ≡ filled_in (114 ∷ 111 ∷ 119 ∷ 32 ∷ 48 ∷ 32 ∷ 53 ∷ 32 ∷ 54 ∷ 32 ∷ 55 ∷ 10 ∷ [])
    (a ∷ n / 134217728 % 2048 ∷ b ∷ n / 32 % 2048 ∷ [])
unfolding row_line row_from line filled_in part
row_form functions h n p q = rw (p, q, second_read h (n / 274877906944 % 4) (n / 134217728 % 2048) (n / 65536 % 2048))

-- "start 0 5"
pub start_form : (registers : List ℕ) (r : ℕ) {a b v : ℕ} → a ≡ get_or registers r 0 → b ≡ v
    → line (start_word ∷ name_text (get_or registers r 0) ∷ blank_word ∷ numeral v ∷ []) ≡ filled_in (115 ∷ 116 ∷ 97 ∷ 114 ∷ 116 ∷ 32 ∷ 48 ∷ 32 ∷ 53 ∷ 10 ∷ [])
    (a ∷ b ∷ 0 ∷ 0 ∷ [])
unfolding line filled_in part
start_form registers r p q = rw (p, q)

-- Lines with numbers alone.
-- "verdict pass"
pub pass_form : line (verdict_word ∷ pass_word ∷ []) ≡ filled_in (118 ∷ 101 ∷ 114 ∷ 100 ∷ 105 ∷ 99 ∷ 116 ∷ 32 ∷ 112 ∷ 97 ∷ 115 ∷ 115 ∷ 10 ∷ [])
    (0 ∷ 0 ∷ 0 ∷ 0 ∷ [])
unfolding line filled_in part
pass_form = refl

-- "verdict incoherent"
pub incoherent_form : line (verdict_word ∷ incoherent_word ∷ []) ≡ filled_in
    (118 ∷ 101 ∷ 114 ∷ 100 ∷ 105 ∷ 99 ∷ 116 ∷ 32 ∷ 105 ∷ 110 ∷ 99 ∷ 111 ∷ 104 ∷ 101 ∷ 114 ∷ 101 ∷ 110 ∷ 116 ∷ 10 ∷ []) (0 ∷ 0 ∷ 0 ∷ 0 ∷ [])
unfolding line filled_in part
incoherent_form = refl

-- "verdict fail"
pub fail_form : line (verdict_word ∷ fail_word ∷ []) ≡ filled_in (118 ∷ 101 ∷ 114 ∷ 100 ∷ 105 ∷ 99 ∷ 116 ∷ 32 ∷ 102 ∷ 97 ∷ 105 ∷ 108 ∷ 10 ∷ [])
    (0 ∷ 0 ∷ 0 ∷ 0 ∷ [])
unfolding line filled_in part
fail_form = refl

-- "pairs 4"
pub pairs_form : (n : ℕ) → line (pairs_word ∷ numeral n ∷ []) ≡ filled_in (112 ∷ 97 ∷ 105 ∷ 114 ∷ 115 ∷ 32 ∷ 52 ∷ 10 ∷ []) (n ∷ 0 ∷ 0 ∷ 0 ∷ [])
unfolding line filled_in part
pairs_form n = refl

-- "letters 4"
pub letters_form : {a n : ℕ} → a ≡ n → line (letters_word ∷ numeral n ∷ [])
    ≡ filled_in (108 ∷ 101 ∷ 116 ∷ 116 ∷ 101 ∷ 114 ∷ 115 ∷ 32 ∷ 52 ∷ 10 ∷ []) (a ∷ 0 ∷ 0 ∷ 0 ∷ [])
unfolding line filled_in part
letters_form e = rw e

-- "values 4"
pub values_form : {n v : ℕ} → n ≡ v → line (values_word ∷ numeral v ∷ [])
    ≡ filled_in (118 ∷ 97 ∷ 108 ∷ 117 ∷ 101 ∷ 115 ∷ 32 ∷ 52 ∷ 10 ∷ []) (n ∷ 0 ∷ 0 ∷ 0 ∷ [])
unfolding line filled_in part
values_form e = rw e

-- "refused 4 at 5"
pub refused_form : {a m : ℕ} (n : ℕ) → a ≡ m → line (refused_word ∷ numeral m ∷ at_word ∷ numeral n ∷ []) ≡ filled_in
    (114 ∷ 101 ∷ 102 ∷ 117 ∷ 115 ∷ 101 ∷ 100 ∷ 32 ∷ 52 ∷ 32 ∷ 97 ∷ 116 ∷ 32 ∷ 53 ∷ 10 ∷ []) (a ∷ n ∷ 0 ∷ 0 ∷ [])
unfolding line filled_in part
refused_form n e = rw e
