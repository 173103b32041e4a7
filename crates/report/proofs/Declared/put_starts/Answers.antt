use Rattle.std.proofs.Common.{◌≡◌, ℕ, ◌+◌, ◌*◌, List, get_or, refl, sym, ap, ◌∙◌}
use Rattle.text.specs.Names.{name_text}
use Rattle.text.proofs.Theory.Appending.{left_all, left_next, left_none, left_room, left_same, room_same, appended_same}
use Rattle.report.specs.Shown.{word_at}
use Rattle.report.proofs.Theory.ShownLaws.{start_lines_start, start_lines_next, start_lines_none}
use Rattle.report.proofs.Theory.Forms.{start_form}
use Rattle.report.proofs.Declared.put_starts.Goals as goal

pub loop-register-init : goal.loop-register-init
loop-register-init c =
    let d = c.args.self.now in
    let R : ℕ → List ℕ = λ r. name_text (get_or d.registers r 0) in
    (refl, left_same (start_lines_start R c.args.answer.now c.args.start d.header.registers) (left_all _ _ _))

-- in a turn there are left the line of a register and the lines behind it
pub put_line-requires : goal.put_line-requires
put_line-requires c =
    let d = c.args.self.now in
    let l = c.loop-register in
    let R : ℕ → List ℕ = λ r. name_text (get_or d.registers r 0) in
    let left = left_same (start_lines_next R c.args.answer.now c.args.start d.header.registers l.register c.loop-register-test.true) l.invariant.1 in
    let value : c.word_at-value.result ≡ word_at c.args.answer.now (c.args.start + 2 * l.register) =
    c.word_at-value.ensures.0 ∙ ap (λ r. word_at c.args.answer.now (c.args.start + 2 * r)) c.from.ensures
    in
    room_same (start_form d.registers l.register c.name_at-name.ensures value) (left_room _ _ c.requires left)

pub loop-register-preserved : goal.loop-register-preserved
loop-register-preserved c =
    let d = c.args.self.now in
    let l = c.loop-register in
    let R : ℕ → List ℕ = λ r. name_text (get_or d.registers r 0) in
    let left = left_same (start_lines_next R c.args.answer.now c.args.start d.header.registers l.register c.loop-register-test.true) l.invariant.1 in
    let value : c.word_at-value.result ≡ word_at c.args.answer.now (c.args.start + 2 * l.register) =
    c.word_at-value.ensures.0 ∙ ap (λ r. word_at c.args.answer.now (c.args.start + 2 * r)) c.from.ensures
    in (
      c.put_line.ensures.same_buffer ∙ l.invariant.0,
      left_next _ _ left (appended_same (sym (start_form d.registers l.register c.name_at-name.ensures value)) c.put_line.ensures.appended),
    )

pub returns-clause-appended : goal.returns-clause-appended
returns-clause-appended c =
    let d = c.args.self.now in
    let l = c.loop-register in
    let R : ℕ → List ℕ = λ r. name_text (get_or d.registers r 0) in
    left_none (left_same (start_lines_none R c.args.answer.now c.args.start d.header.registers l.register c.loop-register-test.false) l.invariant.1)
