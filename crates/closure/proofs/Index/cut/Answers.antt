use Rattle.std.proofs.Common.{refl}
use Rattle.closure.proofs.Theory.Index.{cutting_all_start, cutting_below, cutting_all_turn, cutting_all_end}
use Rattle.closure.proofs.Index.cut.Goals as goal

pub loop-last-init : goal.loop-last-init
loop-last-init c = cutting_all_start _ _ _ c.requires.0 c.requires.1

pub below-requires : goal.below-requires
below-requires c = (c.requires.0.links, cutting_below _ _ _ c.requires.0 c.requires.1 _ _ _ c.loop-last.invariant refl, c.requires.1)

pub loop-last-preserved : goal.loop-last-preserved
loop-last-preserved c = cutting_all_turn _ _ _ c.requires.0 c.requires.1 _ _ _ _ c.loop-last.invariant c.loop-last-test.true refl c.below.ensures

pub returns-clause-chains : goal.returns-clause-chains
returns-clause-chains c = cutting_all_end _ _ _ c.requires.0 c.requires.1 _ _ c.loop-last.invariant c.loop-last-test.false
