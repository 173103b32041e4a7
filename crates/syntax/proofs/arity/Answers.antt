use Rattle.std.proofs.Common.{ap, Err}
use borrow.Author.Tests.{eq-eqb, ne_eqb}
use Rattle.syntax.proofs.Theory.Lists.{arity_slash, arity_behind}
use Rattle.syntax.proofs.arity.Goals as goal

pub returns-in_err-a : goal.returns-in_err-a
returns-in_err-a c = arity_slash _ _ c.expect.ensures c.in_err-a.was c.from_residual.ensures

pub returns-then-t-eq-ONE : goal.returns-then-t-eq-ONE
returns-then-t-eq-ONE c = rw (arity_behind _ _ c.expect.ensures c.in_ok-a.was c.next-t.ensures, eq-eqb _ _ c.if-t-eq-ONE.true)

pub returns-then-t-eq-TWO : goal.returns-then-t-eq-TWO
returns-then-t-eq-TWO c =
    rw (arity_behind _ _ c.expect.ensures c.in_ok-a.was c.next-t.ensures, ne_eqb _ _ c.if-t-eq-ONE.false, eq-eqb _ _ c.if-t-eq-TWO.true)

pub returns : goal.returns
returns c =
    rw (arity_behind _ _ c.expect.ensures c.in_ok-a.was c.next-t.ensures, ne_eqb _ _ c.if-t-eq-ONE.false, ne_eqb _ _ c.if-t-eq-TWO.false)
    (ap Err c.unfitting.ensures)
