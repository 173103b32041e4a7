use Rattle.window.proofs.Theory.Naming.{names_none, names_more, names_all}
use Rattle.window.specs.Layout.{registers}
use Rattle.window.proofs.names.Goals as goal

pub loop-r-init : goal.loop-r-init
loop-r-init c = names_none registers _

pub loop-r-preserved : goal.loop-r-preserved
loop-r-preserved c = names_more registers _ _ _ _ _ c.loop-r.invariant c.name.ensures c.single_if-named.ensures

pub returns : goal.returns
returns c = names_all registers _ _ _ c.loop-r.auto.r-end c.loop-r-test.false c.loop-r.invariant
