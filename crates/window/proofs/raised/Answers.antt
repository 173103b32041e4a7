use native.Mathlib.Omega.{arith}
use borrow.Author.Rules.{rules}
use Rattle.window.specs.Layout.{registers}
use Rattle.window.proofs.Theory.Marks.{rising_none, rising_more, rising_all, rising_grows}
use Rattle.window.proofs.raised.Goals as goal

pub loop-t-init : goal.loop-t-init
loop-t-init c = rising_none registers _ _ _ (search rules) c.below.ensures

pub loop-t-smaller : goal.loop-t-smaller
loop-t-smaller c = let r = c.loop-t.invariant in omega (arith, rising_grows registers _ _ _ _ r, c.loop-t-test.true, r.small)

pub loop-t-preserved : goal.loop-t-preserved
loop-t-preserved c = rising_more registers _ _ _ _ _ c.loop-t.invariant c.loop-t-test.true c.below-in-loop-t.ensures

pub returns : goal.returns
returns c = rising_all registers _ _ _ _ c.loop-t.invariant c.loop-t-test.false
