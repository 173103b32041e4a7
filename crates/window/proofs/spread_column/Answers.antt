use Rattle.std.proofs.Common.{refl, sym, ◌∙◌}
use Rattle.window.proofs.spread_column.Goals.{then-holds, else-holds}
use Rattle.window.specs.Layout.{registers}
use Rattle.window.specs.Lines.{columns}
use Rattle.window.proofs.Theory.Lines.{columns_partition}
use Rattle.window.proofs.Theory.Through.{columns_span, spread_none, spread_more, spread_skip, spread_all}
use Rattle.window.proofs.spread_column.Goals as goal

pub loop-r-init : goal.loop-r-init
loop-r-init c = spread_none (columns registers) (columns_partition registers) 0 _ _ c.requires.0 _

pub loop-r-preserved : goal.loop-r-preserved
loop-r-preserved c = elim c.if-holds.branch [
  | then-holds w ↦ w.t-is ∙ spread_more (columns registers) (columns_partition registers) _ _ _ c.requires.0 _ _ _ _
      (columns_span registers _ _ c.requires.1 refl) c.loop-r.invariant
      (sym c.holds.ensures ∙ w.if-holds.true) w.unite_column.ensures
  | else-holds w ↦ w.t-is ∙ spread_skip (columns registers) (columns_partition registers) 0 _ _ c.requires.0 _ _ _ c.loop-r.invariant
      (sym c.holds.ensures ∙ w.if-holds.false)
]

pub returns : goal.returns
returns c = spread_all (columns registers) (columns_partition registers) 0 _ _ c.requires.0 _ _ _ c.loop-r.invariant c.loop-r-test.false
