-- The verdict on a text in lower case is that on the text, and its lines are those of the text in lower case.
use mathlib.Core.Path.{◌≡◌, refl, sym, ap, subst, ◌∙◌}
use Prim.Native.Nat.{ℕ, zero, suc, ◌+◌, ◌-◌}
use native.Mathlib.Omega.{arith}
use mathlib.Core.List.{List, [], ◌∷◌, ◌++◌, map, map-append}
use lib.Dec.{ltb}
use lib.ListN.{length, get_or}
use borrow.Author.Tests.{lt-leb}
use Rattle.base.proofs.Theory.Choice.{by_test}
use Rattle.base.specs.Masks.{has}
use Rattle.letters.specs.declared.Header.{Header}
use Rattle.letters.specs.declared.Letter.{Letter}
use Rattle.letters.specs.declared.Letter.TheVariants.{Copy, Apply, Equal, Unequal}
use Rattle.semantics.specs.Models.{Feasible}
use Rattle.semantics.specs.Tables.{Row, Tables}
use Rattle.semantics.specs.PackedTables.{second_written}
use Rattle.semantics.specs.Terms.{begin}
use Rattle.tokens.specs.Bytes.{lowered, lower_case}
use Rattle.tokens.specs.Words.{result_word, truth_word}
use Rattle.tokens.specs.Tokens.{token_at, bytes_at, place_of}
use Rattle.tokens.proofs.Theory.BytesLaws.{lower_slice}
use Rattle.grammar.specs.Grammar.{Macro, header_of, expanded}
use Rattle.grammar.specs.Spelled.{function_token}
use Rattle.refusals.proofs.Theory.Accepted.{Acceptance, Becomes, an_acceptance}
use Rattle.verdict_theory.specs.Verdict.{VerdictAnswer, IsVerdict}
use Rattle.verdict_theory.specs.Demand3.{edition_of, pairs_in, Demand3}
use Rattle.text.specs.Numerals.{numeral}
use Rattle.text.proofs.Theory.Numerals.{Digits, numeral_digits}
use Rattle.report.specs.Lines.{Names, Printed, line, lines_of, start_lines, row_line, verdict_lines, letter_line, letter_lines, model_lines, report}
use Rattle.report.specs.Lines as words
use Rattle.verdict_lines.specs.Prints.{name_declared, register_token, hidden_names, declared_names, Told, Says}
use Rattle.verdict_lines.proofs.Theory.PrintsLaws.{one_told}
use Rattle.theorems.specs.LowerCase.{in_lower_case}
use Rattle.theorems.proofs.Steps.LowerCaseTokens.{start_lower, end_lower, behind_lower}
use Rattle.theorems.proofs.Steps.LowerCase.{accepted_lower, accepted_lifted, refusal_lower, refusal_lifted}

-- ---- the verdict

module _ (text table output : List ℕ) (answer : VerdictAnswer) (table' output' : List ℕ) where
  pub verdict_lower : Demand3 Feasible text table output answer table' output' → Demand3 Feasible (lower_case text) table output answer table' output'
  verdict_lower d = record {
    unread = λ n p r. d.unread n p (refusal_lifted text r);
    verdict = λ k b. let (m, a, e) = accepted_lifted text b in
        subst (λ z. IsVerdict Feasible (begin (header_of z)) (expanded z) (edition_of z) (pairs_in (edition_of z) table) output answer output') (sym e)
        (d.verdict m a);
    zeroed = λ k b. let (m, a, e) = accepted_lifted text b in d.zeroed m a;
  }

  pub verdict_lifted : Demand3 Feasible (lower_case text) table output answer table' output' → Demand3 Feasible text table output answer table' output'
  verdict_lifted d = record {
    unread = λ n p r. d.unread n p (refusal_lower text r);
    verdict = λ m a. d.verdict (in_lower_case m) (accepted_lower text a);
    zeroed = λ m a. d.zeroed (in_lower_case m) (accepted_lower text a);
  }

-- ---- what is printed

digits_lower : (s : List ℕ) → Digits s → lower_case s ≡ s
digits_lower [] d = refl
digits_lower (c ∷ s) (l, h, d) = λ i. kept i ∷ digits_lower s d i
  where
    kept : lowered c ≡ c
    kept = rw (lt-leb 65 c (omega arith))

-- a numeral has no letters
numeral_lower : (n : ℕ) → numeral n ≡ lower_case (numeral n)
numeral_lower n = sym (digits_lower (numeral n) (numeral_digits n))

both_lower : (a c : List ℕ) {b d : List ℕ} → b ≡ lower_case a → d ≡ lower_case c → b ++ d ≡ lower_case (a ++ c)
both_lower a c e f = (λ i. e i ++ f i) ∙ sym (map-append lowered a c)

line_lower : (pieces : List (List ℕ)) → line (map lower_case pieces) ≡ lower_case (line pieces)
unfolding line
line_lower [] = refl
line_lower (piece ∷ pieces) = both_lower piece (line pieces) refl (line_lower pieces)

lines_lower : {A : Type 0} (f g : A → List ℕ) → ((x : A) → g x ≡ lower_case (f x)) → (l : List A) → lines_of g l ≡ lower_case (lines_of f l)
unfolding lines_of
lines_lower f g e [] = refl
lines_lower f g e (x ∷ l) = both_lower (f x) (lines_of f l) (e x) (lines_lower f g e l)

-- a line of a word and a numeral
counted_lower : (word : List ℕ) → word ≡ lower_case word → (n : ℕ) → line (word ∷ numeral n ∷ []) ≡ lower_case (line (word ∷ numeral n ∷ []))
counted_lower word e n = (λ i. line (e i ∷ numeral_lower n i ∷ [])) ∙ line_lower (word ∷ numeral n ∷ [])

verdict_lines_lower : (word : List ℕ) → word ≡ lower_case word → (pairs : ℕ) → verdict_lines word pairs ≡ lower_case (verdict_lines word pairs)
unfolding verdict_lines
verdict_lines_lower word e pairs =
    both_lower (line (words.verdict_word ∷ word ∷ [])) (line (words.pairs_word ∷ numeral pairs ∷ []))
    ((λ i. line (words.verdict_word ∷ e i ∷ [])) ∙ line_lower (words.verdict_word ∷ word ∷ []))
    (counted_lower words.pairs_word refl pairs)

refused_lower : (n p : ℕ) → line (words.refused_word ∷ numeral n ∷ words.at_word ∷ numeral p ∷ [])
    ≡ lower_case (line (words.refused_word ∷ numeral n ∷ words.at_word ∷ numeral p ∷ []))
refused_lower n p = (λ i. line (words.refused_word ∷ numeral_lower n i ∷ words.at_word ∷ numeral_lower p i ∷ []))
    ∙ line_lower (words.refused_word ∷ numeral n ∷ words.at_word ∷ numeral p ∷ [])

-- names, and the same names in lower case
module _ (names small : Names) (h : Header) (register : (r : ℕ) → small.register r ≡ lower_case (names.register r))
    (function : (f : ℕ) → small.function f ≡ lower_case (names.function f)) where
  letter_lower : (a : Letter) → letter_line small h a ≡ lower_case (letter_line names h a)
  unfolding letter_line
  letter_lower (Copy x y) =
      (λ i. line (register x i ∷ words.becomes_word ∷ register y i ∷ [])) ∙ line_lower (names.register x ∷ words.becomes_word ∷ names.register y ∷ [])
  letter_lower (Apply x f y z) = by_test (has h.binary f)
      (λ t. rw t (
      (λ i. line (register x i ∷ words.becomes_word ∷ function f i ∷ words.opening_word ∷ register y i ∷ words.comma_word ∷ register z i ∷ words.closing_word ∷ []))
      ∙ line_lower (names.register x ∷ words.becomes_word ∷ names.function f ∷ words.opening_word ∷ names.register y ∷ words.comma_word
      ∷ names.register z ∷ words.closing_word ∷ [])))
      λ t. rw t (
      (λ i. line (register x i ∷ words.becomes_word ∷ function f i ∷ words.opening_word ∷ register y i ∷ words.closing_word ∷ []))
      ∙ line_lower (names.register x ∷ words.becomes_word ∷ names.function f ∷ words.opening_word ∷ names.register y ∷ words.closing_word ∷ []))
  letter_lower (Equal x y) =
      (λ i. line (words.assume_word ∷ register x i ∷ words.equals_word ∷ register y i ∷ []))
      ∙ line_lower (words.assume_word ∷ names.register x ∷ words.equals_word ∷ names.register y ∷ [])
  letter_lower (Unequal x y) =
      (λ i. line (words.assume_word ∷ register x i ∷ words.differs_word ∷ register y i ∷ []))
      ∙ line_lower (words.assume_word ∷ names.register x ∷ words.differs_word ∷ names.register y ∷ [])

  letters_lower : (ls : List Letter) → letter_lines small h ls ≡ lower_case (letter_lines names h ls)
  unfolding letter_lines
  letters_lower ls = both_lower (line (words.letters_word ∷ numeral (length ls) ∷ [])) (lines_of (letter_line names h) ls)
      (counted_lower words.letters_word refl (length ls)) (lines_lower (letter_line names h) (letter_line small h) letter_lower ls)

  starts_lower : (r : ℕ) (values : List ℕ) → start_lines small.register r values ≡ lower_case (start_lines names.register r values)
  unfolding start_lines
  starts_lower r [] = refl
  starts_lower r (value ∷ values) =
      both_lower (line (words.start_word ∷ names.register r ∷ words.blank_word ∷ numeral value ∷ [])) (start_lines names.register (r + 1) values)
      ((λ i. line (words.start_word ∷ register r i ∷ words.blank_word ∷ numeral_lower value i ∷ []))
      ∙ line_lower (words.start_word ∷ names.register r ∷ words.blank_word ∷ numeral value ∷ []))
      (starts_lower (r + 1) values)

  row_lower : (r : Row) → row_line small.function h r ≡ lower_case (row_line names.function h r)
  unfolding row_line
  row_lower r =
      let second = second_written h r.function r.second in
      (λ i. line (words.row_word ∷ function r.function i ∷ words.blank_word ∷ numeral_lower r.first i ∷ words.blank_word ∷ numeral_lower second i
      ∷ words.blank_word ∷ numeral_lower r.result i ∷ []))
      ∙ line_lower (words.row_word ∷ names.function r.function ∷ words.blank_word ∷ numeral r.first ∷ words.blank_word ∷ numeral second
      ∷ words.blank_word ∷ numeral r.result ∷ [])

  model_lower : (t : Tables) → model_lines small h t ≡ lower_case (model_lines names h t)
  unfolding model_lines
  model_lower t =
      both_lower (line (words.values_word ∷ numeral t.count ∷ []))
      (start_lines names.register 0 t.starts ++ lines_of (row_line names.function h) t.rows)
      (counted_lower words.values_word refl t.count)
      (both_lower (start_lines names.register 0 t.starts) (lines_of (row_line names.function h) t.rows) (starts_lower 0 t.starts)
      (lines_lower (row_line names.function h) (row_line small.function h) row_lower t.rows))

  report_lower : (told : Printed) → report small h told ≡ lower_case (report names h told)
  unfolding report
  report_lower (Printed.pass k) = verdict_lines_lower words.pass_word refl k
  report_lower (Printed.incoherent k ls) =
      both_lower (verdict_lines words.incoherent_word k) (letter_lines names h ls) (verdict_lines_lower words.incoherent_word refl k) (letters_lower ls)
  report_lower (Printed.fail k ls t) =
      both_lower (verdict_lines words.fail_word k) (letter_lines names h ls ++ model_lines names h t) (verdict_lines_lower words.fail_word refl k)
      (both_lower (letter_lines names h ls) (model_lines names h t) (letters_lower ls) (model_lower t))
  report_lower (Printed.refused n p) = refused_lower n p

-- ---- of a text

module _ (text : List ℕ) where
  bytes_lower : (at : ℕ) → bytes_at (lower_case text) at ≡ lower_case (bytes_at text at)
  bytes_lower at = rw (start_lower text at, end_lower text at) (lower_slice (token_at text at).start (token_at text at).end text)

  name_lower : (n : ℕ) (declaring : ℕ → ℕ) (i : ℕ) → name_declared (lower_case text) n declaring i ≡ lower_case (name_declared text n declaring i)
  name_lower n declaring i = by_test (ltb i n)
      (λ t. rw t (ap (bytes_at (lower_case text)) (behind_lower text 0 (declaring i)) ∙ bytes_lower (place_of text (declaring i)))) λ t. rw t

  -- no verdict looks at spellings
  told_lower : (m : Macro) (t : Printed) → Told (in_lower_case m) t → Told m t
  unfolding Told
  told_lower m (Printed.pass k) x = x
  told_lower m (Printed.incoherent k ls) x = x
  told_lower m (Printed.fail k ls t) x = x
  told_lower m (Printed.refused n p) x = x

  -- the words of the hidden registers are in lower case
  hidden_lower : (m : Macro) (r : ℕ) → get_or (hidden_names m) r [] ≡ lower_case (get_or (hidden_names m) r [])
  hidden_lower m r = by_test (ltb m.first_test (length m.functions)) (λ t. rw t (words r)) λ t. rw t refl
    where
      words : (r : ℕ) → get_or (result_word ∷ truth_word ∷ []) r [] ≡ lower_case (get_or (result_word ∷ truth_word ∷ []) r [])
      words zero = refl
      words (suc zero) = refl
      words (suc (suc r)) = refl

  register_lower : (m : Macro) (r : ℕ) → (declared_names (lower_case text) (in_lower_case m)).register r ≡ lower_case ((declared_names text m).register r)
  register_lower m r =
      by_test (ltb r (length m.registers)) (λ t. rw t (rw t at (name_lower (length m.registers) register_token r)))
      λ t. rw t (hidden_lower m (r - length m.registers))

  pub said_lower : (a b : List ℕ) → Says text a → Says (lower_case text) b → b ≡ lower_case a
  said_lower a b x y = let (o, k) = an_acceptance text in go o k
    where
      go : (o : Acceptance) → Becomes text o → b ≡ lower_case a
      go (Acceptance.refused n p) r = y.unread n p (refusal_lower text r) ∙ refused_lower n p ∙ ap lower_case (sym (x.unread n p r))
      go (Acceptance.accepted m) r =
          let (s, t, u) = x.verdict m r in
          let (s', t', u') = y.verdict (in_lower_case m) (accepted_lower text r) in
          let names = declared_names text m in
          let small = declared_names (lower_case text) (in_lower_case m) in
          u'
          ∙ ap (report small (header_of m)) (one_told m r.in_order s' s (told_lower m s' t') t)
          ∙ report_lower names small (header_of m) (register_lower m)
          (name_lower (length m.functions) (function_token (length m.registers) m.first_test)) s
          ∙ ap lower_case (sym u)
