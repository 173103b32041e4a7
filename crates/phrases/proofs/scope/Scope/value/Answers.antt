use borrow.Author.Tests.{eq-eqb, ne_eqb}
use Rattle.std.proofs.Common.{◌≡◌, ap, ◌∙◌}
use Rattle.grammar.specs.Reading.{right_hand_side}
use Rattle.tokens.specs.Tokens.{token_at}
use Rattle.phrases.proofs.Theory.Answers.{passed_on, plain_on}
use Rattle.phrases.proofs.Theory.PhraseLaws.{value_applied}
use Rattle.phrases.proofs.scope.Scope.value.Goals as goal

pub returns-then-u-eq-LPAREN : goal.returns-then-u-eq-LPAREN
unfolding right_hand_side
returns-then-u-eq-LPAREN c =
    let a = c.args.self.now in
    let e : c.next-u.result ≡ token_at a.text.now (token_at a.text.now c.args.at).end = c.next-u.ensures ∙ ap (λ t. token_at a.text.now t.end)
    c.next-t.ensures in
    rw (← e, eq-eqb _ _ c.if-u-eq-LPAREN.true)
    (value_applied a.text.now a.registers.now a.functions.now a.arities.now a.first_test c.args.x c.args.at c.call.ensures)

pub returns-in_err-y : goal.returns-in_err-y
unfolding right_hand_side
returns-in_err-y c =
    rw (← c.next-t.ensures, ← c.next-u.ensures, ne_eqb _ _ c.if-u-eq-LPAREN.false)
    (passed_on _ _ _ _ c.use_of.ensures c.in_err-y.was c.from_residual.ensures)

pub returns : goal.returns
unfolding right_hand_side
returns c = rw (← c.next-t.ensures, ← c.next-u.ensures, ne_eqb _ _ c.if-u-eq-LPAREN.false, plain_on _ c.use_of.ensures c.in_ok-y.was)
