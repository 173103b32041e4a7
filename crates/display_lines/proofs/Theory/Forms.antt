-- Lines as templates with their fields, and how long they are.
use mathlib.Core.Path.{◌≡◌, refl, sym, ap, ◌∙◌, subst}
use mathlib.Core.Bool.{true, false}
use mathlib.Core.List.{List, [], ◌∷◌, ◌++◌}
use Prim.Native.Nat.{ℕ, ◌+◌, ◌/◌, ◌≤◌, ◌<◌}
use native.Mathlib.Omega.{arith}
use lib.ListN.{length, length-append}
use Rattle.io.specs.Digits.{last_digits}
use Rattle.base.specs.Bytes.{byte_values}
use Rattle.tokens.specs.Bytes.{spelling}
use Rattle.text.specs.Numerals.{numeral}
use Rattle.text.proofs.Theory.Numerals.{numeral_length}
use Rattle.text.specs.Templates.{part, filled_in}
use Rattle.text.specs.Appending.{Appended, PlaceInRange}
use Rattle.text.proofs.Theory.Appending.{appended_same, room_same}
use Rattle.report.specs.Lines.{line, incoherent_word, coherent_word}
use Rattle.window.specs.declared.Window.{Window}
use Rattle.streaming.specs.declared.Monitor.{Monitor}
use Rattle.display_lines.specs.Lines.{fresh_word, hex_base, word_digits, state_line}
use Rattle.display_lines.specs.Display.{displayed_word, monitor_line, judged_line}
use Rattle.display_lines.specs.Fields.{name_digits, half_word, StateFields}
use Rattle.display_lines.specs.Prints.{longest_line, most_display_lines, most_display_line_bytes}
use Rattle.display_lines.proofs.Theory.Digits.{word_form}

-- "4 fresh 5 23", "4 coherent 5 23", "4 incoherent 5 23"
abbrev pub fresh_template : List ℕ
fresh_template = 52 ∷ 32 ∷ 102 ∷ 114 ∷ 101 ∷ 115 ∷ 104 ∷ 32 ∷ 53 ∷ 32 ∷ 50 ∷ 51 ∷ 10 ∷ []

abbrev pub coherent_template : List ℕ
coherent_template = 52 ∷ 32 ∷ 99 ∷ 111 ∷ 104 ∷ 101 ∷ 114 ∷ 101 ∷ 110 ∷ 116 ∷ 32 ∷ 53 ∷ 32 ∷ 50 ∷ 51 ∷ 10 ∷ []

abbrev pub incoherent_template : List ℕ
incoherent_template = 52 ∷ 32 ∷ 105 ∷ 110 ∷ 99 ∷ 111 ∷ 104 ∷ 101 ∷ 114 ∷ 101 ∷ 110 ∷ 116 ∷ 32 ∷ 53 ∷ 32 ∷ 50 ∷ 51 ∷ 10 ∷ []

module _ (k : ℕ) (m : Monitor) (fields : List ℕ) (f : StateFields k m.window fields) where
  abbrev n : ℕ
  n = m.window.classes

  abbrev w : ℕ
  w = displayed_word m.window

  pub fresh_state_form : monitor_line fresh_word k m ≡ filled_in fresh_template fields
  unfolding monitor_line state_line line filled_in part
  fresh_state_form = rw f.fields_are (λ i. numeral k ++ (32 ∷ (fresh_word ++ (32 ∷ (numeral n ++ (32 ∷ word_form w i))))))

  pub coherent_state_form : monitor_line coherent_word k m ≡ filled_in coherent_template fields
  unfolding monitor_line state_line line filled_in part
  coherent_state_form = rw f.fields_are (λ i. numeral k ++ (32 ∷ (coherent_word ++ (32 ∷ (numeral n ++ (32 ∷ word_form w i))))))

  pub incoherent_state_form : monitor_line incoherent_word k m ≡ filled_in incoherent_template fields
  unfolding monitor_line state_line line filled_in part
  incoherent_state_form = rw f.fields_are (λ i. numeral k ++ (32 ∷ (incoherent_word ++ (32 ∷ (numeral n ++ (32 ∷ word_form w i))))))

  -- No line is longer.
  pub line_few : (said : List ℕ) → length said ≤ 10 → k < most_display_lines → length (monitor_line said k m) ≤ longest_line
  unfolding monitor_line state_line line
  line_few said l h =
      let few = f.few in
      let d : length (last_digits hex_base word_digits w) ≡ 16 = refl in
      let a : length (numeral k) ≤ 5 = numeral_length 4 k (omega arith) in
      let b : length (numeral n) ≤ 3 = numeral_length 2 n (omega arith) in
      simp length-append (omega arith)

  -- ── the line in a buffer ──
  module _ (said template : List ℕ) (form : monitor_line said k m ≡ filled_in template fields) (l : length said ≤ 10) (h : k < most_display_lines)
      {at : ℕ} where
    pub line_room : at ≤ most_display_line_bytes → PlaceInRange at (filled_in template fields)
    line_room a = room_same form record { fits = omega (arith, line_few said l h) }

    pub line_put : {entry exit : List ℕ} {r : ℕ} → Appended entry at (filled_in template fields) exit r
        → Appended entry at (monitor_line said k m) exit r × (r ≤ at + longest_line)
    line_put a = let b = appended_same (sym form) a in (b, omega (arith, line_few said l h, b.place))

-- ── the line after a letter ──
module _ (k : ℕ) (m : Monitor) where
  pub judged_coherent : m.running ≡ true → monitor_line coherent_word k m ≡ judged_line k m
  unfolding judged_line monitor_line
  judged_coherent e = rw e refl

  pub judged_incoherent : m.running ≡ false → monitor_line incoherent_word k m ≡ judged_line k m
  unfolding judged_line monitor_line
  judged_incoherent e = rw e refl

-- ── the fields, from the calls that make them ──
pub fields_made : (k : ℕ) (w : Window) {count pairs one two : ℕ} → count ≡ w.classes → count < byte_values → pairs ≡ displayed_word w
    → one ≡ spelling (last_digits hex_base name_digits (pairs / half_word)) → two ≡ spelling (last_digits hex_base name_digits pairs)
    → StateFields k w (k ∷ count ∷ one ∷ two ∷ [])
fields_made k w c l p a b = record {
  few = subst (λ (n : ℕ). n < byte_values) c l;
  fields_are = λ i. k ∷ c i ∷ (a ∙ ap (λ (n : ℕ). spelling (last_digits hex_base name_digits (n / half_word))) p) i
      ∷ (b ∙ ap (λ (n : ℕ). spelling (last_digits hex_base name_digits n)) p) i ∷ [];
}
