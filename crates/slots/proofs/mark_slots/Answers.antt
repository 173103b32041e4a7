use mathlib.Core.Path.{refl}
use borrow.Author.Rules.{rules}
use Rattle.window.specs.Layout.{registers}
use Rattle.slots.proofs.Theory.Loops.{marks_more, marks_all}
use Rattle.slots.proofs.mark_slots.Goals as goal

pub loop-r-preserved : goal.loop-r-preserved
loop-r-preserved c =
    let a = c.args in
    marks_more registers a.slot.now _ a.slots (search rules) _ _ _ _ c.loop-r.invariant c.loop-r-test.true refl c.holds.ensures

pub returns : goal.returns
returns c =
    let a = c.args in
    marks_all registers a.slot.now _ a.slots (search rules) _ _ c.loop-r.invariant c.loop-r-test.false
