use mathlib.Core.Path.{ap, ◌∙◌}
use Rattle.window.specs.Layout.{registers, functions}
use Rattle.slots.specs.Slots.{Slots, slots_of}
use Rattle.slots.specs.Performing.{recorded_slots}
use Rattle.slots.proofs.Theory.Loops.{recorded_still, recorded_is, pair-recorded}
use Rattle.slots.proofs.Theory.Keeping.{kept_same, kept_recorded}
use Rattle.slots.proofs.SlotWindow.record.Goals as goal

pub returns-then-a-n : goal.returns-then-a-n
returns-then-a-n c =
    let a = c.args in
    let i = c.self.inside in
    recorded_still registers functions (slots_of i.slot i.regs i.unequal i.result i.ever i.mark i.infeasible) a.x a.f a.a a.b a.n c.if-a-n.true
    ∙ ap (λ (v : Slots). recorded_slots registers functions v a.x a.f a.a a.b a.n) c.self.view_is

pub invariant_of-self-2 : goal.invariant_of-self-2
invariant_of-self-2 c =
    let a = c.args in
    let p = c.requires in
    let i = c.self.inside in
    let t = c.if-a-n.false in
    let w : Slots = slots_of i.slot i.regs i.unequal i.result i.ever i.mark i.infeasible in
    kept_same registers functions _ _ _ _ (recorded_is registers functions w a.x a.f a.a a.b a.n _ _ t c.single.ensures c.single-2.ensures)
    (pair-recorded registers a.a a.b a.n i.around t _ _ c.single-3.ensures c.single-4.ensures)
    (kept_recorded registers functions w i.around c.self.invariant a.x a.f a.a a.b a.n p.f_is_function p.a_is_slot p.b_is_slot)

pub returns : goal.returns
returns c =
    let a = c.args in
    let i = c.self.inside in
    recorded_is registers functions (slots_of i.slot i.regs i.unequal i.result i.ever i.mark i.infeasible) a.x a.f a.a a.b a.n _ _ c.if-a-n.false
    c.single.ensures c.single-2.ensures ∙ ap (λ (v : Slots). recorded_slots registers functions v a.x a.f a.a a.b a.n) c.self.view_is
