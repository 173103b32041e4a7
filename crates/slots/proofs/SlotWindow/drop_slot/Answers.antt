use mathlib.Core.Path.{◌∙◌}
use borrow.Author.Rules.{rules}
use Rattle.window.specs.Layout.{registers, functions}
use Rattle.slots.proofs.Theory.Loops.{dropped_is}
use Rattle.slots.proofs.Theory.Around.{lost_around}
use Rattle.slots.proofs.Theory.Keeping.{kept_same, kept_dropped}
use Rattle.slots.proofs.SlotWindow.drop_slot.Goals as goal

pub invariant_of-self : goal.invariant_of-self
invariant_of-self c =
    let a = c.args in
    let i = c.self.inside in
    let k = c.self.invariant in
    let lost = c.lost_slots.ensures ∙ lost_around registers functions _ _ k.around _ _ c.requires (search rules) in
    let dropped = dropped_is registers functions i.slot i.regs i.unequal i.result i.ever _ _ _ i.mark _ i.infeasible a.s a.more _ lost c.mark_slots.ensures
    c.forget_masks.ensures c.drop_results.ensures c.forget_masks-2.ensures in
    kept_same registers functions _ _ _ _ dropped c.drop_results-2.ensures (kept_dropped registers functions _ _ k a.s a.more)
