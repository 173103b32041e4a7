-- Small texts, and what the writer finds in them (SPEC 8.4, 8.6): each definition holds of something, and not of everything. Bytes are ASCII codes.
use mathlib.Core.Path.{◌≡◌, refl, sym, ap, ◌∙◌, subst}
use mathlib.Core.Bool.{true, false}
use mathlib.Core.List.{List, [], ◌∷◌}
use Prim.Native.Nat.{ℕ}
use native.Mathlib.Omega.{arith}
use lib.ListN.{length, replicate}
use Rattle.tokens.specs.Bytes.{key, spelling, gap, name_length, width}
use Rattle.tokens.specs.Words as word
use Rattle.tokens.specs.Tokens.{token_at}
use Rattle.text.specs.Appending.{stored, Appended}
use Rattle.grammar.specs.Grammar.{Macro}
use Rattle.refusals.proofs.Theory.Accepted.{accepted_once}
use Rattle.layout_theory.specs.Layout.{house_layout}
use Rattle.layout_theory.proofs.Theory.Examples.{one_register_text, one_register, one_register_print, one_register_accepted, one_register_printed}
use Rattle.layout_writer.specs.Tokens.{IsFirst, FirstSpelled, PrintedAs, empty_block_at, LaysOut}
use Rattle.layout_writer.proofs.Theory.Finding.{looked_none, looked_found, looked_in_vain, name_printed, other_printed}

-- ---- the first token that is known by a number

-- `vars Xx;xX:=XX;`
unfoldable three_spellings : List ℕ
three_spellings = 118 ∷ 97 ∷ 114 ∷ 115 ∷ 32 ∷ 88 ∷ 120 ∷ 59 ∷ 120 ∷ 88 ∷ 58 ∷ 61 ∷ 88 ∷ 88 ∷ 59 ∷ []

-- behind `vars`
abbrev behind_word : ℕ
behind_word = 4

-- `xx`, by which all three spellings are known, and the first two of them
abbrev shared_key : ℕ
shared_key = key (120 ∷ 120 ∷ [])

abbrev declared_spelling : ℕ
declared_spelling = spelling (88 ∷ 120 ∷ [])

abbrev other_spelling : ℕ
other_spelling = spelling (120 ∷ 88 ∷ [])

first_at_once : IsFirst three_spellings behind_word shared_key 0
unfolding three_spellings token_at gap width name_length
first_at_once = record { known = refl; real = λ j l. absurd (omega arith); others = λ j l. absurd (omega arith) }

-- token 2, `xX`, is known by it too
third_not_first : IsFirst three_spellings behind_word shared_key 2 → ⊥
third_not_first F = F.others 0 (omega arith) first_at_once.known

-- token 0 is not `;`
sign_not_first : IsFirst three_spellings behind_word word.semicolon_key 0 → ⊥
sign_not_first F = let z : shared_key ≡ word.semicolon_key = sym first_at_once.known ∙ F.known in omega arith

declared_spelled : FirstSpelled three_spellings behind_word shared_key declared_spelling
unfolding three_spellings token_at gap width name_length
declared_spelled = looked_found three_spellings behind_word shared_key behind_word (token_at three_spellings behind_word) refl
    (looked_none three_spellings behind_word shared_key) refl

other_not_spelled : FirstSpelled three_spellings behind_word shared_key other_spelling → ⊥
unfolding three_spellings token_at gap width name_length
other_not_spelled F = let z : other_spelling ≡ declared_spelling = F.first 0 first_at_once in omega arith

-- in the empty text there is none, and nothing is said
none_spelled : (w : ℕ) → FirstSpelled [] 0 shared_key w
unfolding token_at gap
none_spelled = looked_in_vain [] 0 shared_key 0 (token_at [] 0) refl (looked_none [] 0 shared_key) (λ e. omega arith) (omega arith)

-- ---- a token as it is printed

-- a name as it is declared
name_as_declared : PrintedAs three_spellings behind_word shared_key declared_spelling
name_as_declared = name_printed three_spellings behind_word shared_key true refl declared_spelling refl declared_spelled

name_not_otherwise : PrintedAs three_spellings behind_word shared_key other_spelling → ⊥
name_not_otherwise P = other_not_spelled (P.name refl)

-- `;` as itself
sign_as_itself : PrintedAs three_spellings behind_word word.semicolon_key word.semicolon_key
sign_as_itself = other_printed three_spellings behind_word word.semicolon_key false refl refl

sign_not_otherwise : (w : ℕ) → PrintedAs three_spellings behind_word word.semicolon_key w → w ≡ word.semicolon_key
sign_not_otherwise w P = P.other refl

comma_not_printed : PrintedAs three_spellings behind_word word.semicolon_key word.comma_key → ⊥
comma_not_printed P = let z = sign_not_otherwise word.comma_key P in omega arith

-- ---- a block without statements

-- `{#`, an LF and `}`: a comment is no statement
comment_block : empty_block_at (123 ∷ 35 ∷ 10 ∷ 125 ∷ []) 0 ≡ true
unfolding token_at gap width name_length
comment_block = refl

-- `{skip;}`
skip_block : empty_block_at (123 ∷ 115 ∷ 107 ∷ 105 ∷ 112 ∷ 59 ∷ 125 ∷ []) 0 ≡ false
unfolding token_at gap width name_length
skip_block = refl

-- `{}` from its second byte on, and `{` alone
no_block : empty_block_at (123 ∷ 125 ∷ []) 1 ≡ false
unfolding token_at gap width name_length
no_block = refl

open_block : empty_block_at (123 ∷ []) 0 ≡ false
unfolding token_at gap width name_length
open_block = refl

-- ---- `vars x;` put into a buffer

put_print : {entry exit : List ℕ} {size : ℕ} → Appended entry 0 one_register_print exit size → LaysOut one_register_text entry size exit
put_print {entry} {exit} {size} a = record {
  print = λ m b.
      subst (λ (n : Macro). Appended entry 0 (house_layout n) exit size) (accepted_once one_register_text one_register_accepted b)
      (subst (λ (l : List ℕ). Appended entry 0 l exit size) (sym one_register_printed) a);
}

-- It has eight bytes, also where the buffer has none;
eight_counted : LaysOut one_register_text [] 8 []
unfolding one_register_print stored
eight_counted = put_print (record { bytes = refl; place = refl })

-- seven is wrong, whatever the buffer holds.
seven_not_counted : (entry exit : List ℕ) → LaysOut one_register_text entry 7 exit → ⊥
unfolding one_register_print
seven_not_counted entry exit L = omega (arith, (L.print one_register one_register_accepted).place, ap length one_register_printed)

-- In a buffer of three stands `var`,
front_put : LaysOut one_register_text (replicate 3 0) 8 (118 ∷ 97 ∷ 114 ∷ [])
unfolding one_register_print stored
front_put = put_print (record { bytes = refl; place = refl })

-- and it does not stay as it was.
front_not_kept : (size : ℕ) → LaysOut one_register_text (replicate 3 0) size (replicate 3 0) → ⊥
unfolding one_register_print stored
front_not_kept size L =
    let a : Appended (replicate 3 0) 0 one_register_print (replicate 3 0) size = rw one_register_printed at (L.print one_register one_register_accepted) in
    let z : ◌≡◌ {A = ℕ} 0 118 = let e = a.bytes in cc in omega arith
