use Rattle.std.proofs.Common.{ap₂, rules, bit_or}
use Rattle.base.proofs.Theory.Written.{written_none, written_more}
use Rattle.window.proofs.Theory.Table.{written_all}
use Rattle.window.specs.Marks.{above_of}
use Rattle.window.proofs.above.Goals as goal

pub loop-h-init : goal.loop-h-init
loop-h-init c = written_none _ _ _ _ (search rules)

pub loop-h-preserved : goal.loop-h-preserved
loop-h-preserved c = written_more _ _ _ _ _ _ c.loop-h.invariant c.loop-h-test.true (ap₂ bit_or c.union.ensures c.union-in-loop-h.ensures)

pub returns : goal.returns
unfolding above_of
returns c = written_all _ _ _ _ _ c.loop-h.invariant c.loop-h-test.false
