use Rattle.window.proofs.Theory.Marks.{union_none, union_more, union_all}
use Rattle.window.proofs.results_at.Goals as goal

pub loop-f-init : goal.loop-f-init
loop-f-init c = union_none _ _ _

pub loop-f-preserved : goal.loop-f-preserved
loop-f-preserved c = union_more _ _ _ _ _ c.loop-f.invariant

pub returns : goal.returns
returns c = union_all _ _ _ _ _ _ c.loop-f.auto.f-end c.loop-f-test.false c.loop-f.invariant
