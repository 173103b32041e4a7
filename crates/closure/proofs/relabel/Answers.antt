use Rattle.std.proofs.Common.{arith, refl}
use Rattle.base.proofs.Theory.Each.{each_turn, ended}
use Rattle.closure.specs.Arrays.{relabelled}
use Rattle.closure.proofs.Theory.Propagation.{relabel_starts, fall_most, fall_is}
use Rattle.closure.proofs.relabel.Goals as goal

pub loop-i-init : goal.loop-i-init
loop-i-init c = relabel_starts _ _ _ _ _ c.requires.3 c.requires.1 refl

pub overflow_sub-representative : goal.overflow_sub-representative
overflow_sub-representative c = fall_most _ _ _ _ _ c.requires.2 refl c.fall.ensures

pub loop-i-preserved : goal.loop-i-preserved
loop-i-preserved c = each_turn _ _ _ _ 0 _ c.loop-i.invariant (fall_is _ _ _ _ _ c.requires.2 refl c.fall.ensures)

pub returns : goal.returns
unfolding relabelled
returns c = ended _ _ _ _ _ c.loop-i.invariant (let h = c.loop-i.auto.i-end c.requires.1 in let l = c.loop-i-test.false in omega arith)
