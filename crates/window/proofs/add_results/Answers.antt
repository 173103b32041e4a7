use Rattle.std.proofs.Common.{sym, ◌∙◌, arith}
use Rattle.window.proofs.add_results.Goals.{then-holds, else-holds}
use Rattle.window.specs.Layout.{registers}
use Rattle.window.proofs.Theory.Adding.{added_none, added_more, added_skip, added_all}
use Rattle.window.proofs.add_results.Goals as goal

pub loop-a-init : goal.loop-a-init
loop-a-init c = added_none registers _ _ _ _ _

pub loop-a-preserved : goal.loop-a-preserved
loop-a-preserved c = elim c.if-holds.branch [
  | then-holds w ↦ w.t-is ∙ added_more registers _ _ _ _ _ _ _ _ c.loop-a-test.true c.loop-a.invariant (sym c.holds.ensures ∙ w.if-holds.true)
      w.add_line.ensures
  | else-holds w ↦ w.t-is ∙ added_skip registers _ _ _ _ _ _ _ c.loop-a.invariant (sym c.holds.ensures ∙ w.if-holds.false)
]

pub returns : goal.returns
returns c = added_all registers _ _ _ _ _ (omega arith) _ _ c.loop-a.invariant c.loop-a-test.false
