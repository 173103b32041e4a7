use Rattle.window.proofs.Theory.Marks.{union_none, union_more, union_all}
use Rattle.window.proofs.union.Goals as goal

pub loop-j-init : goal.loop-j-init
loop-j-init c = union_none _ _ _

pub loop-j-preserved : goal.loop-j-preserved
loop-j-preserved c = union_more _ _ _ _ _ c.loop-j.invariant

pub returns : goal.returns
returns c = union_all _ _ _ _ _ _ c.loop-j.auto.j-end c.loop-j-test.false c.loop-j.invariant
