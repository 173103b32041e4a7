use Rattle.std.proofs.Common.{◌≡◌, ℕ, suc, true, false, ◌&&◌, ◌||◌, List, [], ◌∷◌, length, get_or, eqb, refl, sym, ap, ◌∙◌}
use Rattle.std.proofs.lemmas.Bool.{and_left, and_right, or_left, or_right, or_from}
use Rattle.std.proofs.lemmas.List.Sums.{take_while-cons}
use Rattle.std.specs.List.{take_while}
use Rattle.base.specs.Choice.{pick}
use Rattle.base.proofs.Theory.Choice.{by_test}
use Rattle.tokens.specs.Bytes.{inner, name_length, mark, negation, symbol}
use Rattle.tokens.proofs.Theory.BytesLaws.{width_empty, width_name, width_long, width_paired, width_sign}
use Rattle.tokens.proofs.width_of.Goals as goal
use Rattle.tokens.proofs.width_of.Goals.{
  else-is_mark-via-then-is_mark+else-is_paired,
  else-is_mark-via-else-is_mark,
  then-is_negation-via-then-is_negation,
  then-is_negation-via-else-is_negation+then-is_symbol,
}

run_taken : (s : List ℕ) → length (take_while inner s) ≡ name_length s
unfolding name_length
run_taken [] = refl
run_taken (b ∷ s) = ap length (take_while-cons inner b s) ∙ by_test (inner b) (λ t. rw t (ap suc (run_taken s))) λ t. rw t refl

pub returns-in_default : goal.returns-in_default
returns-in_default c = width_empty _ c.in_default.len_below

pub returns-then-n-le-LONGEST_NAME : goal.returns-then-n-le-LONGEST_NAME
returns-then-n-le-LONGEST_NAME c =
    width_name _ c.in-len1-up.len_at_least _ c.is_letter.ensures _ c.if-is_letter.true (c.run_length-n.ensures ∙ run_taken c.args.text.now)
    c.if-n-le-LONGEST_NAME.true

pub returns-else-n-le-LONGEST_NAME : goal.returns-else-n-le-LONGEST_NAME
returns-else-n-le-LONGEST_NAME c =
    width_long _ c.in-len1-up.len_at_least _ c.is_letter.ensures _ c.if-is_letter.true (c.run_length-n.ensures ∙ run_taken c.args.text.now)
    c.if-n-le-LONGEST_NAME.false

pub returns-then-is_paired : goal.returns-then-is_paired
returns-then-is_paired c =
    width_paired _ c.in-len1-up.len_at_least _ c.is_letter.ensures c.if-is_letter.false (sym c.is_mark.ensures ∙ c.if-is_mark.true)
    (sym c.is_paired.ensures ∙ c.if-is_paired.true)

pub returns-then-is_negation : goal.returns-then-is_negation
returns-then-is_negation c =
    let s = c.args.text.now in
    let unpaired : (mark (get_or s 0 0) && eqb (get_or s 1 0) 61) ≡ false = elim c.else-is_mark.branch [
      | else-is_mark-via-then-is_mark+else-is_paired w ↦ and_right _ _ (sym w.is_paired.ensures ∙ w.if-is_paired.false)
      | else-is_mark-via-else-is_mark w ↦ and_left _ _ (sym c.is_mark.ensures ∙ w.if-is_mark.false)
    ] in
    let sign : (negation (get_or s 0 0) || symbol (get_or s 0 0)) ≡ true = elim c.then-is_negation.branch [
      | then-is_negation-via-then-is_negation w ↦ or_left _ _ (sym c.is_negation.ensures ∙ w.if-is_negation.true)
      | then-is_negation-via-else-is_negation+then-is_symbol w ↦ or_right _ _ (sym w.is_symbol.ensures ∙ w.if-is_symbol.true)
    ] in
    sym (width_sign s c.in-len1-up.len_at_least _ c.is_letter.ensures c.if-is_letter.false unpaired ∙ ap (λ x. pick x (λ _. 1) λ _. 0) sign)

pub returns : goal.returns
returns c =
    let s = c.args.text.now in
    let unpaired : (mark (get_or s 0 0) && eqb (get_or s 1 0) 61) ≡ false = elim c.else-is_mark.branch [
      | else-is_mark-via-then-is_mark+else-is_paired w ↦ and_right _ _ (sym w.is_paired.ensures ∙ w.if-is_paired.false)
      | else-is_mark-via-else-is_mark w ↦ and_left _ _ (sym c.is_mark.ensures ∙ w.if-is_mark.false)
    ] in
    let none : (negation (get_or s 0 0) || symbol (get_or s 0 0)) ≡ false =
    or_from _ _ (sym c.is_negation.ensures ∙ c.if-is_negation.false) (sym c.is_symbol.ensures ∙ c.if-is_symbol.false)
    in
    sym (width_sign s c.in-len1-up.len_at_least _ c.is_letter.ensures c.if-is_letter.false unpaired ∙ ap (λ x. pick x (λ _. 1) λ _. 0) none)
