use Rattle.std.proofs.Common.{ap}
use borrow.Author.Tests.{eq-eqb, ne_eqb}
use Rattle.exploration.specs.declared.PointMove.TheVariants.{Goes, Fails}
use Rattle.exploration.specs.Moves.{move_of}
use Rattle.exploration.proofs.choose.Goals as goal

pub returns-then-b-eq0 : goal.returns-then-b-eq0
unfolding move_of
returns-then-b-eq0 c = rw (c.in-Step.is, eq-eqb _ _ c.if-b-eq0.true)

pub returns-else-b-eq0 : goal.returns-else-b-eq0
unfolding move_of
returns-else-b-eq0 c = rw (c.in-Step.is, ne_eqb _ _ c.if-b-eq0.false)

pub returns-then-b-eq0-2 : goal.returns-then-b-eq0-2
unfolding move_of
returns-then-b-eq0-2 c = rw (c.in-Check.is, eq-eqb _ _ c.if-b-eq0-2.true) (ap Fails c.opposite.ensures)

pub returns-else-b-eq0-2 : goal.returns-else-b-eq0-2
unfolding move_of
returns-else-b-eq0-2 c = rw (c.in-Check.is, ne_eqb _ _ c.if-b-eq0-2.false)

pub returns-then-b-eq0-3 : goal.returns-then-b-eq0-3
unfolding move_of
returns-then-b-eq0-3 c = rw (c.in-Fork.is, eq-eqb _ _ c.if-b-eq0-3.true)

pub returns-else-b-eq0-3 : goal.returns-else-b-eq0-3
unfolding move_of
returns-else-b-eq0-3 c = rw (c.in-Fork.is, ne_eqb _ _ c.if-b-eq0-3.false) (ap (λ l. Goes l c.args.point.second) c.opposite-else-b-eq0-3.ensures)
