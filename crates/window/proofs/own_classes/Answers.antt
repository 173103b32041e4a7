use Rattle.std.proofs.Common.{rules}
use Rattle.base.proofs.Theory.Written.{written_none, written_more}
use Rattle.window.proofs.Theory.Table.{written_all}
use Rattle.window.proofs.own_classes.Goals as goal

pub loop-r-init : goal.loop-r-init
loop-r-init c = written_none _ _ _ _ (search rules)

pub loop-r-preserved : goal.loop-r-preserved
loop-r-preserved c = written_more _ _ _ _ _ _ c.loop-r.invariant c.loop-r-test.true c.own.ensures

pub returns : goal.returns
returns c = written_all _ _ _ _ _ c.loop-r.invariant c.loop-r-test.false
