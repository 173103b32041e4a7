use Rattle.std.proofs.Common.{ap, Err}
use borrow.Author.Tests.{eq-eqb, ne_eqb}
use Rattle.grammar.specs.Reading.{arguments_t}
use Rattle.phrases.proofs.scope.Scope.arguments.Goals as goal

pub returns-then-n-eq2 : goal.returns-then-n-eq2
unfolding arguments_t
returns-then-n-eq2 c = rw (← c.next-t.ensures, eq-eqb _ _ c.if-t-eq-COMMA.true, eq-eqb _ _ c.if-n-eq2.true) c.second_argument.ensures

pub returns-then-t-eq-COMMA : goal.returns-then-t-eq-COMMA
unfolding arguments_t
returns-then-t-eq-COMMA c = rw (← c.next-t.ensures, eq-eqb _ _ c.if-t-eq-COMMA.true, ne_eqb _ _ c.if-n-eq2.false) (ap Err c.at.ensures)

pub returns-then-n-eq2-2 : goal.returns-then-n-eq2-2
unfolding arguments_t
returns-then-n-eq2-2 c =
    rw (← c.next-t.ensures, ne_eqb _ _ c.if-t-eq-COMMA.false, eq-eqb _ _ c.if-t-eq-RPAREN.true, eq-eqb _ _ c.if-n-eq2-2.true)
    (ap Err c.at-then-n-eq2-2.ensures)

pub returns-then-t-eq-RPAREN : goal.returns-then-t-eq-RPAREN
unfolding arguments_t
returns-then-t-eq-RPAREN c =
    rw (← c.next-t.ensures, ne_eqb _ _ c.if-t-eq-COMMA.false, eq-eqb _ _ c.if-t-eq-RPAREN.true, ne_eqb _ _ c.if-n-eq2-2.false)

pub returns : goal.returns
unfolding arguments_t
returns c = rw (← c.next-t.ensures, ne_eqb _ _ c.if-t-eq-COMMA.false, ne_eqb _ _ c.if-t-eq-RPAREN.false) (ap Err c.unfitting.ensures)
