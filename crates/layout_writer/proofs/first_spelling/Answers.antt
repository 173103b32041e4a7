use Rattle.std.proofs.Common.{arith}
use Rattle.layout_writer.proofs.Theory.Finding.{looked_none, looked_on, looked_found, looked_in_vain, looked_to_end, goes_further}
use Rattle.layout_writer.proofs.first_spelling.Goals as goal

pub loop-at-init : goal.loop-at-init
loop-at-init c = looked_none _ _ _

pub returns-then-t-key : goal.returns-then-t-key
returns-then-t-key c = looked_found _ _ _ _ _ c.next-t.ensures c.loop-at.invariant c.if-t-key.true

pub returns-then-t-le-WRONG : goal.returns-then-t-le-WRONG
returns-then-t-le-WRONG c =
    looked_in_vain _ _ _ _ _ c.next-t.ensures c.loop-at.invariant c.if-t-key.false c.if-t-le-WRONG.true _

pub loop-at-smaller : goal.loop-at-smaller
loop-at-smaller c = let (past, within) = goes_further _ _ _ c.next-t.ensures c.if-t-le-WRONG.false in omega (arith, past, within)

pub loop-at-preserved : goal.loop-at-preserved
loop-at-preserved c = looked_on _ _ _ _ _ c.next-t.ensures c.loop-at.invariant c.if-t-key.false c.if-t-le-WRONG.false

pub returns : goal.returns
returns c = looked_to_end _ _ _ _ c.loop-at-test.false c.loop-at.invariant
