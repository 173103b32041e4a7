use Rattle.window.specs.Layout.{registers, functions}
use Rattle.window.proofs.Theory.Performing.{clash_none, clash_more, clash_all}
use Rattle.window.proofs.clash.Goals as goal

pub loop-r-init : goal.loop-r-init
loop-r-init c = clash_none registers functions _ _

pub loop-r-preserved : goal.loop-r-preserved
loop-r-preserved c = clash_more registers functions _ _ _ _ _ c.loop-r.invariant c.apart-bad.ensures

pub returns : goal.returns
returns c = clash_all registers functions _ _ _ _ c.loop-r.auto.r-end c.loop-r-test.false c.loop-r.invariant
