use Rattle.std.proofs.Common.{[], ◌∷◌, sym}
use Rattle.text.specs.Numerals.{numeral}
use Rattle.text.proofs.Theory.Appending.{room_same, room_first, room_then, appended_same, appended_then}
use Rattle.report.specs.Lines.{line, lines_of, letter_line, letters_word}
use Rattle.report.specs.Shown.{names_of, letters_in}
use Rattle.report.proofs.Theory.ShownLaws.{execution_parts}
use Rattle.report.proofs.Theory.Forms.{letters_form}
use Rattle.report.proofs.Declared.put_execution.Goals as goal

pub put_line-requires : goal.put_line-requires
put_line-requires c =
    let d = c.args.self.now in
    let names = names_of d.registers d.functions in
    let letters = letters_in d.header c.args.answer.now 0 c.args.count in
    room_same (letters_form c.from-number.ensures)
    (room_first (line (letters_word ∷ numeral c.args.count ∷ [])) (lines_of (letter_line names d.header) letters)
    (room_same (execution_parts names d.header c.args.answer.now c.args.count) c.requires))

pub put_letters-requires : goal.put_letters-requires
put_letters-requires c =
    let d = c.args.self.now in
    let names = names_of d.registers d.functions in
    let letters = letters_in d.header c.args.answer.now 0 c.args.count in
    room_then (line (letters_word ∷ numeral c.args.count ∷ [])) (lines_of (letter_line names d.header) letters)
    (room_same (execution_parts names d.header c.args.answer.now c.args.count) c.requires)
    (appended_same (sym (letters_form c.from-number.ensures)) c.put_line.ensures.appended)

pub returns-clause-appended : goal.returns-clause-appended
returns-clause-appended c =
    let d = c.args.self.now in
    let names = names_of d.registers d.functions in
    let letters = letters_in d.header c.args.answer.now 0 c.args.count in
    appended_same (sym (execution_parts names d.header c.args.answer.now c.args.count))
    (appended_then (line (letters_word ∷ numeral c.args.count ∷ [])) (lines_of (letter_line names d.header) letters)
    (appended_same (sym (letters_form c.from-number.ensures)) c.put_line.ensures.appended) c.put_letters.ensures.appended)
