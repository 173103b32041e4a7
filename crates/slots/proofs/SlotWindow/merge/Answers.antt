use Rattle.window.specs.Layout.{registers, functions}
use Rattle.slots.specs.Slots.{Slots, slots_of}
use Rattle.slots.proofs.Theory.Loops.{merged_is}
use Rattle.slots.proofs.Theory.Keeping.{kept_same, kept_merged}
use Rattle.slots.proofs.SlotWindow.merge.Goals as goal

pub invariant_of-self : goal.invariant_of-self
invariant_of-self c =
    let a = c.args in
    let p = c.requires in
    let i = c.self.inside in
    let w : Slots = slots_of i.slot i.regs i.unequal i.result i.ever i.mark i.infeasible in
    let merged = merged_is registers functions w a.a a.b _ _ _ _ c.rename_slot.ensures c.rename_masks.ensures c.rename_results.ensures
    c.rename_masks-2.ensures in
    kept_same registers functions _ _ _ _ merged c.rename_results-2.ensures
    (kept_merged registers functions w i.around c.self.invariant a.a a.b p.a_is_slot p.b_is_slot)
