use Rattle.std.proofs.Common.{◌≡◌, ◌+◌, ◌-◌, ◌*◌, arith, ◌∙◌}
use Rattle.display_lines.proofs.Theory.PrintsLaws.{letters_more, letters_done}
use Rattle.display_lines.proofs.put_judged_lines.Goals as goal

pub loop-number-preserved : goal.loop-number-preserved
loop-number-preserved c =
    let l = c.loop-number in
    let put = c.put_judged_line.ensures in
    let here : l.number - 1 + 1 ≡ l.number = omega arith in
    let letters : l.number + 1 - 1 ≡ l.number - 1 + 1 = omega arith in
    let place : 2 * (l.number + 1) ≡ 2 * l.number + 2 = omega arith in
    let more = letters_more l.invariant.1 (omega arith) _ c.word.ensures _ c.step.ensures.computed (rw here put.appended) put.few in
    (put.same_buffer ∙ l.invariant.0, rw (letters, place) more)

pub returns-clause-appended : goal.returns-clause-appended
returns-clause-appended c = (letters_done c.loop-number.invariant.1 c.requires.2 (omega arith)).0
