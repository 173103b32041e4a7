use Rattle.std.proofs.Common.{arith, refl}
use Rattle.base.proofs.Theory.Each.{each_none, each_turn, ended}
use Rattle.engine.proofs.begin.Goals as goal

pub loop-i-init : goal.loop-i-init
loop-i-init c = (each_none _ _, each_none _ _)

pub loop-i-preserved : goal.loop-i-preserved
loop-i-preserved c = (each_turn _ _ _ _ 0 _ c.loop-i.invariant.0 refl, each_turn _ _ _ _ 0 _ c.loop-i.invariant.1 refl)

pub returns : goal.returns
returns c = record { classes = ended _ _ _ _ _ c.loop-i.invariant.0 (omega arith); values = ended _ _ _ _ _ c.loop-i.invariant.1 (omega arith) }
