use Rattle.std.proofs.Common.{refl, rules}
use Rattle.window.specs.Layout.{registers}
use Rattle.window.specs.Lines.{rows}
use Rattle.window.proofs.Theory.Lines.{rows_partition, gone_none, clear_more, cleared_all}
use Rattle.window.proofs.Theory.Through.{rows_whole}
use Rattle.window.proofs.clear_row.Goals as goal

pub loop-j-init : goal.loop-j-init
loop-j-init c = gone_none _ _ _ _

pub loop-j-preserved : goal.loop-j-preserved
loop-j-preserved c = clear_more (rows registers) (rows_partition registers) _ _ _ _ _ (rows_whole registers (search rules) _ _ c.requires.1 refl) c.requires.0
    c.loop-j-test.true c.loop-j.invariant

pub returns : goal.returns
returns c = cleared_all (rows registers) _ _ _ _ _ (rows_whole registers (search rules) _ _ c.requires.1 refl) c.loop-j-test.false c.loop-j.invariant
