use Rattle.std.proofs.Common.{arith, ◌≡◌, ℕ, ◌-◌, List, length, take, drop, ap, ◌∙◌}
use Rattle.std.proofs.Math.Seq.{take_all}
use Rattle.std.proofs.lemmas.List.{length-drop}
use Rattle.tokens.specs.Bytes.{width}
use Rattle.tokens.proofs.Theory.TokensLaws.{token_end, token_wrong, token_read, token_within}
use Rattle.tokens.proofs.next.Goals as goal

-- the text behind a place, as it is lent
rest_lent : (s : List ℕ) (p w : ℕ) → w ≡ width (take (length s - p) (drop p s)) → w ≡ width (drop p s)
rest_lent s p w e = e ∙ ap width (take_all (length s - p) (drop p s) (omega (arith, length-drop p s)))

pub returns-then-text-start : goal.returns-then-text-start
returns-then-text-start c = token_end _ _ _ c.skip_gap-start.ensures c.if-text-start.true

pub returns-then-width-eq0 : goal.returns-then-width-eq0
returns-then-width-eq0 c =
    let s = c.args.text.now in
    let e = rest_lent s c.skip_gap-start.result _ c.width_of-width.ensures in
    token_wrong _ _ _ _ c.skip_gap-start.ensures c.if-text-start.false e c.if-width-eq0.true

pub overflow_add-end : goal.overflow_add-end
overflow_add-end c =
    let s = c.args.text.now in
    let e = rest_lent s c.skip_gap-start.result _ c.width_of-width.ensures in
    let h = token_within s c.skip_gap-start.result _ e c.if-text-start.false in record { fits = omega arith }

pub numbers_of-numbers-requires : goal.numbers_of-numbers-requires
numbers_of-numbers-requires c =
    let s = c.args.text.now in
    let e = rest_lent s c.skip_gap-start.result _ c.width_of-width.ensures in
    let h = token_within s c.skip_gap-start.result _ e c.if-text-start.false in (omega arith, h.0, omega arith)

pub returns : goal.returns
returns c =
    let s = c.args.text.now in
    let e = rest_lent s c.skip_gap-start.result _ c.width_of-width.ensures in
    token_read _ _ _ _ c.skip_gap-start.ensures c.if-text-start.false e c.if-width-eq0.false _ c.numbers_of-numbers.ensures
