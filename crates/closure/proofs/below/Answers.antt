use Rattle.std.proofs.Common.{arith, refl}
use Rattle.closure.proofs.Theory.Index.{cutting_turn, link_less}
use Rattle.closure.proofs.below.Goals as goal

pub loop-i-preserved : goal.loop-i-preserved
loop-i-preserved c = (
  let l = link_less _ _ _ _ c.requires.0 c.requires.2 c.loop-i-test.true refl in let h = c.loop-i.invariant.0 in omega arith,
  cutting_turn _ _ _ _ _ c.loop-i.invariant.1 c.loop-i-test.true refl,
)
