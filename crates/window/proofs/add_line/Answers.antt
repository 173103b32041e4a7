use Rattle.std.proofs.Common.{arith}
use Rattle.window.specs.Layout.{registers}
use Rattle.window.proofs.Theory.Adding.{adding_none, adding_more, adding_all}
use Rattle.window.proofs.add_line.Goals as goal

pub loop-r-init : goal.loop-r-init
loop-r-init c = adding_none registers _ _ _ _

pub loop-r-preserved : goal.loop-r-preserved
loop-r-preserved c = adding_more registers _ _ _ _ c.requires _ _ _ c.loop-r.invariant c.loop-r-test.true c.part.ensures

pub returns : goal.returns
returns c = adding_all registers _ _ _ _ (omega arith) _ _ c.loop-r.invariant c.loop-r-test.false
