use Rattle.std.proofs.Common.{sym, ◌∙◌}
use Rattle.window.proofs.spread_row.Goals.{then-holds, else-holds}
use Rattle.window.specs.Layout.{registers, functions}
use Rattle.window.specs.Lines.{rows}
use Rattle.window.proofs.Theory.Lines.{rows_partition}
use Rattle.window.proofs.Theory.Through.{rows_span, spread_none, spread_more, spread_skip, spread_all}
use Rattle.window.proofs.spread_row.Goals as goal

pub loop-r-init : goal.loop-r-init
loop-r-init c = spread_none (rows registers) (rows_partition registers) 0 _ _ c.requires.0 _

pub loop-r-preserved : goal.loop-r-preserved
loop-r-preserved c = elim c.if-holds.branch [
  | then-holds w ↦ w.t-is ∙ spread_more (rows registers) (rows_partition registers) _ _ _ c.requires.0 _ _ _ _
      (rows_span registers functions _ c.requires.1) c.loop-r.invariant
      (sym c.holds.ensures ∙ w.if-holds.true) w.unite_row.ensures
  | else-holds w ↦ w.t-is ∙ spread_skip (rows registers) (rows_partition registers) 0 _ _ c.requires.0 _ _ _ c.loop-r.invariant
      (sym c.holds.ensures ∙ w.if-holds.false)
]

pub returns : goal.returns
returns c = spread_all (rows registers) (rows_partition registers) 0 _ _ c.requires.0 _ _ _ c.loop-r.invariant c.loop-r-test.false
