use Rattle.std.proofs.Common.{arith, refl, sym, ap, ◌∙◌}
use Rattle.text.proofs.Theory.Appending.{left_all, left_next, left_none, left_room, left_same, room_same, appended_same}
use Rattle.report.specs.Lines.{letter_line}
use Rattle.report.specs.Shown.{names_of}
use Rattle.report.proofs.Theory.ShownLaws.{letter_lines_start, letter_lines_next, letter_lines_none}
use Rattle.report.proofs.Declared.put_letters.Goals as goal

pub loop-k-init : goal.loop-k-init
loop-k-init c =
    let d = c.args.self.now in
    let F = letter_line (names_of d.registers d.functions) d.header in
    (refl, left_same (letter_lines_start F d.header c.args.answer.now c.args.count) (left_all _ _ _))

-- in a turn there are left the line of letter k and the lines behind it
pub put_letter-requires : goal.put_letter-requires
put_letter-requires c =
    let d = c.args.self.now in
    let F = letter_line (names_of d.registers d.functions) d.header in
    let left = left_same (letter_lines_next F d.header c.args.answer.now c.args.count c.loop-k.k (omega arith)) c.loop-k.invariant.1 in
    room_same (ap F (sym c.letter_of.ensures)) (left_room _ _ c.requires left)

pub loop-k-preserved : goal.loop-k-preserved
loop-k-preserved c =
    let d = c.args.self.now in
    let F = letter_line (names_of d.registers d.functions) d.header in
    let left = left_same (letter_lines_next F d.header c.args.answer.now c.args.count c.loop-k.k (omega arith)) c.loop-k.invariant.1 in (
      c.put_letter.ensures.same_buffer ∙ c.loop-k.invariant.0,
      left_next _ _ left (appended_same (ap F c.letter_of.ensures) c.put_letter.ensures.appended),
    )

pub returns-clause-appended : goal.returns-clause-appended
returns-clause-appended c =
    let d = c.args.self.now in
    let F = letter_line (names_of d.registers d.functions) d.header in
    left_none (left_same (letter_lines_none F d.header c.args.answer.now c.args.count c.loop-k.k (omega arith)) c.loop-k.invariant.1)
