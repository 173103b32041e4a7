use mathlib.Core.Path.{◌≡◌, sym, ap, ◌∙◌}
use Prim.Native.Nat.{◌+◌, ◌-◌, ◌<◌, ◌≤◌}
use native.Mathlib.Omega.{arith}
use Rattle.window.specs.Layout.{registers, functions, register_pairs, results}
use Rattle.slots.specs.Slots.{Slots}
use Rattle.slots.specs.Performing.{doubled_of, closed_slots}
use Rattle.slots.proofs.Theory.Loops.{closed_still, closed_none, closed_one, closed_more, closed_end}
use Rattle.slots.proofs.SlotWindow.close.Goals as goal

pub returns-then-not-doubled : goal.returns-then-not-doubled
returns-then-not-doubled c =
    let l = c.loop-turn in
    let fuel : 0 < register_pairs + 1 - l._turn = omega (arith, c.loop-turn-test.true) in
    let double = c.doubled.ensures ∙ ap (λ (v : Slots). doubled_of registers v.result results) c.self.view_is in
    sym (closed_still registers functions _ _ l.self fuel double c.if-not-doubled.true) ∙ l.invariant

pub returns-then-one-ge-REGISTERS : goal.returns-then-one-ge-REGISTERS
returns-then-one-ge-REGISTERS c =
    let l = c.loop-turn in
    let fuel : 0 < register_pairs + 1 - l._turn = omega (arith, c.loop-turn-test.true) in
    let double = c.doubled.ensures ∙ ap (λ (v : Slots). doubled_of registers v.result results) c.self.view_is in
    sym (closed_none registers functions _ _ l.self fuel double c.if-not-doubled.false _ _ c.find-m.ensures c.name-one.ensures
    c.if-one-ge-REGISTERS.true) ∙ l.invariant

pub returns-then-two-ge-REGISTERS : goal.returns-then-two-ge-REGISTERS
returns-then-two-ge-REGISTERS c =
    let l = c.loop-turn in
    let fuel : 0 < register_pairs + 1 - l._turn = omega (arith, c.loop-turn-test.true) in
    let double = c.doubled.ensures ∙ ap (λ (v : Slots). doubled_of registers v.result results) c.self.view_is in
    sym (closed_one registers functions _ _ l.self fuel double c.if-not-doubled.false _ _ c.find-m.ensures c.name-one.ensures _ _
    c.rest.ensures c.name-two.ensures c.if-one-ge-REGISTERS.false c.if-two-ge-REGISTERS.true) ∙ l.invariant

pub loop-turn-preserved : goal.loop-turn-preserved
loop-turn-preserved c =
    let l = c.loop-turn in
    let fuel : 0 < register_pairs + 1 - l._turn = omega (arith, c.loop-turn-test.true) in
    let double = c.doubled.ensures ∙ ap (λ (v : Slots). doubled_of registers v.result results) c.self.view_is in
    let less : register_pairs + 1 - (l._turn + 1) ≡ register_pairs + 1 - l._turn - 1 = omega arith in
    ap (λ n. closed_slots registers functions n c.merge.new.self) less
    ∙ sym (closed_more registers functions _ _ l.self fuel double c.if-not-doubled.false _ _ c.find-m.ensures c.name-one.ensures _ _
    c.rest.ensures c.name-two.ensures c.if-one-ge-REGISTERS.false c.if-two-ge-REGISTERS.false _ _ c.slot_of-a.ensures.value
    c.slot_of-b.ensures.value _ c.merge.ensures) ∙ l.invariant

pub returns : goal.returns
returns c =
    let l = c.loop-turn in
    let end : register_pairs + 1 - l._turn ≤ 0 = omega (arith, c.loop-turn-test.false) in
    sym (closed_end registers functions _ l.self end) ∙ l.invariant
