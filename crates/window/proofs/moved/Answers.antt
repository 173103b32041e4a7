use borrow.Author.Tests.{eq-eqb, ne_eqb}
use Rattle.window.specs.Bits.{mask_moved, minus}
use Rattle.window.proofs.moved.Goals as goal

pub returns-then-m-from-eq0 : goal.returns-then-m-from-eq0
unfolding mask_moved minus
returns-then-m-from-eq0 c = rw (eq-eqb _ _ c.if-m-from-eq0.true)

pub returns-else-m-from-eq0 : goal.returns-else-m-from-eq0
unfolding mask_moved minus
returns-else-m-from-eq0 c = rw (ne_eqb _ _ c.if-m-from-eq0.false)
