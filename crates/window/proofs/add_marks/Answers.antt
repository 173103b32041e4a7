use Rattle.std.proofs.Common.{ap, ◌∙◌, ◌||◌, arith}
use Rattle.base.specs.Masks.{has}
use Rattle.window.proofs.Theory.Table.{swept_none, swept_more, swept_all}
use Rattle.window.proofs.Theory.Marks.{mark_is}
use Rattle.window.specs.Marks.{marked_with}
use Rattle.window.proofs.add_marks.Goals as goal

pub loop-r-init : goal.loop-r-init
loop-r-init c = swept_none _ _ _

pub loop-r-preserved : goal.loop-r-preserved
loop-r-preserved c = swept_more _ _ _ _ _ _ c.loop-r.invariant (omega arith)
    (mark_is c.loop-r.mark c.args.s c.loop-r.r _ c.holds.ensures ∙ ap (λ v. v || has c.args.s c.loop-r.r) (c.loop-r.invariant.ahead _ (omega arith)))

pub returns : goal.returns
unfolding marked_with
returns c = rw (← c.told-mark) (swept_all _ _ _ _ _ c.loop-r.invariant (omega arith))
