use Rattle.std.proofs.Common.{arith}
use Rattle.window.proofs.Theory.Table.{swept_none, swept_all}
use Rattle.window.proofs.Theory.Through.{moved_turn}
use Rattle.window.specs.Through.{bits_moved}
use Rattle.window.proofs.move_bits.Goals as goal

pub loop-mask-init : goal.loop-mask-init
loop-mask-init c = swept_none _ _ _

pub loop-mask-preserved : goal.loop-mask-preserved
loop-mask-preserved c = moved_turn _ _ _ _ _ _ c.loop-mask.invariant (omega (arith, c.loop-mask.invariant.long, c.loop-mask-test.true)) c.moved.ensures

pub returns : goal.returns
unfolding bits_moved
returns c = swept_all _ _ _ _ _ c.loop-mask.invariant (omega (arith, c.loop-mask.invariant.long, c.loop-mask-test.false))
