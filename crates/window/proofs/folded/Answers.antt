use Rattle.std.proofs.Common.{rules}
use Rattle.base.proofs.Theory.Written.{written_none, written_more}
use Rattle.window.proofs.Theory.Table.{written_all}
use Rattle.window.specs.Marks.{folded_of}
use Rattle.window.proofs.folded.Goals as goal

pub loop-i-init : goal.loop-i-init
loop-i-init c = written_none _ _ _ _ (search rules)

pub loop-i-preserved : goal.loop-i-preserved
loop-i-preserved c = written_more _ _ _ _ _ _ c.loop-i.invariant c.loop-i-test.true c.results_at.ensures

pub returns : goal.returns
unfolding folded_of
returns c = written_all _ _ _ _ _ c.loop-i.invariant c.loop-i-test.false
