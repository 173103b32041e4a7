use Rattle.std.proofs.Common.{[], ◌∷◌, sym}
use Rattle.text.specs.Templates.{filled_in}
use Rattle.text.specs.Numerals.{numeral}
use Rattle.text.proofs.Theory.Appending.{room_same, room_first, room_then, appended_same, appended_then}
use Rattle.report.specs.Lines.{line, pairs_word}
use Rattle.report.proofs.Theory.Forms.{pairs_form}
use Rattle.report.proofs.lines.put_verdict.Goals as goal

pub put_line-requires : goal.put_line-requires
put_line-requires c =
    let a = c.args in room_first (filled_in a.verdict.now (0 ∷ 0 ∷ 0 ∷ 0 ∷ [])) (line (pairs_word ∷ numeral a.pairs ∷ [])) c.requires

pub put_line-requires-2 : goal.put_line-requires-2
put_line-requires-2 c =
    let a = c.args in
    room_same (pairs_form a.pairs) (room_then (filled_in a.verdict.now (0 ∷ 0 ∷ 0 ∷ 0 ∷ [])) (line (pairs_word ∷ numeral a.pairs ∷ []))
    c.requires c.put_line.ensures.appended)

pub returns-clause-appended : goal.returns-clause-appended
returns-clause-appended c =
    let a = c.args in
    appended_then (filled_in a.verdict.now (0 ∷ 0 ∷ 0 ∷ 0 ∷ [])) (line (pairs_word ∷ numeral a.pairs ∷ [])) c.put_line.ensures.appended
    (appended_same (sym (pairs_form a.pairs)) c.put_line-2.ensures.appended)
