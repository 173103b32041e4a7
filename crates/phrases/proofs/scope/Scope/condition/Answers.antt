use Rattle.std.proofs.Common.{◌∙◌, length}
use borrow.Author.Tests.{eq-eqb, ne_eqb}
use Rattle.grammar.specs.Reading.{condition}
use Rattle.phrases.proofs.Theory.PhraseLaws.{compares, as_read, as_refused, comparison_asked}
use Rattle.phrases.proofs.scope.Scope.condition.Goals as goal

pub returns-then-t-eq-NOT : goal.returns-then-t-eq-NOT
unfolding condition
returns-then-t-eq-NOT c = rw (← c.next-t.ensures, eq-eqb _ _ c.if-t-eq-NOT.true) c.named_test.ensures

pub returns-then-u-eq-LPAREN : goal.returns-then-u-eq-LPAREN
unfolding condition
returns-then-u-eq-LPAREN c =
    rw (← c.next-t.ensures, ne_eqb _ _ c.if-t-eq-NOT.false, ← c.next-u.ensures, eq-eqb _ _ c.if-u-eq-LPAREN.true) c.named_test-then-u-eq-LPAREN.ensures

pub returns-in_err-test : goal.returns-in_err-test
unfolding condition
returns-in_err-test c =
    let a = c.args.self.now in
    rw (← c.next-t.ensures, ne_eqb _ _ c.if-t-eq-NOT.false, ← c.next-u.ensures, ne_eqb _ _ c.if-u-eq-LPAREN.false)
    (as_refused compares c.in_err-test.was c.from_residual.ensures
    ∙ comparison_asked (length a.registers.now) a.text.now a.registers.now c.args.at c.comparison.ensures)

pub returns : goal.returns
unfolding condition
returns c =
    let a = c.args.self.now in
    rw (← c.next-t.ensures, ne_eqb _ _ c.if-t-eq-NOT.false, ← c.next-u.ensures, ne_eqb _ _ c.if-u-eq-LPAREN.false)
    (as_read compares c.in_ok-test.was
    ∙ comparison_asked (length a.registers.now) a.text.now a.registers.now c.args.at c.comparison.ensures)
