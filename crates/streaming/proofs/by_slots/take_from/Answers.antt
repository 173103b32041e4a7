use mathlib.Core.Path.{ap, ◌∙◌}
use mathlib.Core.Bool.{Bool}
use Rattle.streaming.specs.Run.{first_of}
use Rattle.streaming.proofs.Laws.{step_within}
use Rattle.streaming.proofs.SlotLaws.{standing_start, standing_more, standing_malformed, standing_done}
use Rattle.streaming.proofs.by_slots.take_from.Goals as goal

pub loop-high-init : goal.loop-high-init
loop-high-init c = λ whole st. st

pub returns-in_default : goal.returns-in_default
returns-in_default c window r =
    let a = c.args in
    let l = c.loop-high in
    let begun = standing_start a.header window a.slots a.fine a.count a.one a.two a.bytes.now r in
    c.run_of.ensures ∙ standing_malformed a.header l.slots l.fine l.count l.one l.two a.bytes.now _ c.as_chunks.ensures.front l.high-index _
    (l.invariant _ begun) _ _ _ _ c.window.ensures c.loop-high-test.true c.word.ensures c.in_default.ensures c.next_number-number.ensures

pub judge-fine-requires : goal.judge-fine-requires
judge-fine-requires c = step_within c.args.header _ _ c.in-Some.ensures

pub perform_if-requires : goal.perform_if-requires
perform_if-requires c = step_within c.args.header _ _ c.in-Some.ensures

pub loop-high-preserved : goal.loop-high-preserved
loop-high-preserved c =
    let a = c.args in
    let l = c.loop-high in
    let two = ap (λ (b : Bool). first_of l.two b c.next_number-number.result) c.infeasible.ensures in
    λ whole begun. standing_more a.header l.slots l.fine l.count l.one l.two a.bytes.now _ c.as_chunks.ensures.front l.high-index whole
    (l.invariant whole begun) _ _ _ _ _ _ _ _ c.loop-high-test.true c.word.ensures c.in-Some.ensures c.next_number-number.ensures
    c.judge-fine.ensures c.perform_if.ensures c.first-one.ensures (c.first-two.ensures ∙ two)

pub returns : goal.returns
returns c window r =
    let a = c.args in
    let l = c.loop-high in
    let begun = standing_start a.header window a.slots a.fine a.count a.one a.two a.bytes.now r in
    c.run_of-2.ensures ∙ standing_done a.header l.slots l.fine l.count l.one l.two a.bytes.now _ c.as_chunks.ensures.front l.high-index _
    (l.invariant _ begun) _ c.window-2.ensures c.loop-high-test.false
