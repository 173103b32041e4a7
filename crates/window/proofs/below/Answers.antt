use Rattle.window.specs.Layout.{registers}
use Rattle.window.proofs.Theory.Marks.{below_none, below_more, below_all}
use Rattle.window.proofs.below.Goals as goal

pub loop-h-init : goal.loop-h-init
loop-h-init c = below_none registers _ _

pub loop-h-preserved : goal.loop-h-preserved
loop-h-preserved c = below_more registers _ _ _ _ _ c.loop-h.invariant c.flag-m.ensures

pub returns : goal.returns
returns c = below_all registers _ _ _ _ c.loop-h.auto.h-end c.loop-h-test.false c.loop-h.invariant
