use Rattle.std.proofs.Common.{rules, ℕ, ◌+◌, ◌*◌, List, drop, sym, ap, ◌≡◌, Ok}
use Rattle.letters.specs.Editions.{first_edition}
use Rattle.semantics.specs.TablesRead.{read_tables}
use Rattle.text.proofs.Theory.Appending.{room_same, appended_same}
use Rattle.report.specs.declared.Declared.{Declared}
use Rattle.report.specs.declared.ReportedVerdict.TheVariants.{Pass, Incoherent, Fail}
use Rattle.report.specs.Lines.{model_lines}
use Rattle.report.specs.Shown.{names_of}
use Rattle.report.proofs.Theory.ReportParts.{pass_room, pass_done, incoherent_room, incoherent_letters, incoherent_done, fail_room, fail_letters}
use Rattle.report.proofs.Theory.ReportParts.{fail_model, fail_done, refused_parts}
use Rattle.report.proofs.Declared.put_report.Goals as goal

-- the lines of the model behind n letters
abbrev model_behind : Declared → List ℕ → ℕ → List ℕ
model_behind d s n = model_lines (names_of d.registers d.functions) d.header (read_tables first_edition d.header (drop (2 * n + 2) s))

pub put_verdict-requires : goal.put_verdict-requires
put_verdict-requires c =
    let d = c.args.self.now in
    let was : c.args.verdict ≡ Ok (Pass c.in-Ok-Pass.pairs) = search rules in
    pass_room d.registers d.functions d.header c.args.answer.now was c.requires

pub put_verdict-requires-in-Ok-Incoherent : goal.put_verdict-requires-in-Ok-Incoherent
put_verdict-requires-in-Ok-Incoherent c =
    let d = c.args.self.now in
    let was : c.args.verdict ≡ Ok (Incoherent c.in-Ok-Incoherent.pairs c.in-Ok-Incoherent.letters) = search rules in
    incoherent_room d.registers d.functions d.header c.args.answer.now was c.requires

pub put_execution-requires : goal.put_execution-requires
put_execution-requires c =
    let d = c.args.self.now in
    let was : c.args.verdict ≡ Ok (Incoherent c.in-Ok-Incoherent.pairs c.in-Ok-Incoherent.letters) = search rules in
    incoherent_letters d.registers d.functions d.header c.args.answer.now was c.requires c.put_verdict-in-Ok-Incoherent.ensures.appended

pub put_verdict-requires-in-Ok-Fail : goal.put_verdict-requires-in-Ok-Fail
put_verdict-requires-in-Ok-Fail c =
    let d = c.args.self.now in
    let was : c.args.verdict ≡ Ok (Fail c.in-Ok-Fail.pairs c.in-Ok-Fail.letters) = search rules in
    fail_room d.registers d.functions d.header c.args.answer.now was c.requires

pub put_execution-requires-in-Ok-Fail : goal.put_execution-requires-in-Ok-Fail
put_execution-requires-in-Ok-Fail c =
    let d = c.args.self.now in
    let was : c.args.verdict ≡ Ok (Fail c.in-Ok-Fail.pairs c.in-Ok-Fail.letters) = search rules in
    fail_letters d.registers d.functions d.header c.args.answer.now was c.requires c.put_verdict-in-Ok-Fail.ensures.appended

pub put_model-requires-clause-room : goal.put_model-requires-clause-room
put_model-requires-clause-room c =
    let d = c.args.self.now in
    let was : c.args.verdict ≡ Ok (Fail c.in-Ok-Fail.pairs c.in-Ok-Fail.letters) = search rules in
    room_same (ap (model_behind d c.args.answer.now) (sym c.from.ensures))
    (fail_model d.registers d.functions d.header c.args.answer.now was c.put_verdict-in-Ok-Fail.ensures.appended
    c.put_execution-in-Ok-Fail.ensures.appended c.requires)

pub put_line-requires : goal.put_line-requires
put_line-requires c =
    let d = c.args.self.now in
    room_same (refused_parts d.registers d.functions d.header c.args.answer.now c.from-number.ensures c.in-Err.is) c.requires

pub returns-in-Ok-Pass-clause-appended : goal.returns-in-Ok-Pass-clause-appended
returns-in-Ok-Pass-clause-appended c =
    let d = c.args.self.now in
    let was : c.args.verdict ≡ Ok (Pass c.in-Ok-Pass.pairs) = search rules in
    pass_done d.registers d.functions d.header c.args.answer.now was c.put_verdict.ensures.appended

pub returns-in-Ok-Incoherent-clause-appended : goal.returns-in-Ok-Incoherent-clause-appended
returns-in-Ok-Incoherent-clause-appended c =
    let d = c.args.self.now in
    let was : c.args.verdict ≡ Ok (Incoherent c.in-Ok-Incoherent.pairs c.in-Ok-Incoherent.letters) = search rules in
    incoherent_done d.registers d.functions d.header c.args.answer.now was c.put_verdict-in-Ok-Incoherent.ensures.appended
    c.put_execution.ensures.appended

pub returns-in-Ok-Fail-clause-appended : goal.returns-in-Ok-Fail-clause-appended
returns-in-Ok-Fail-clause-appended c =
    let d = c.args.self.now in
    let was : c.args.verdict ≡ Ok (Fail c.in-Ok-Fail.pairs c.in-Ok-Fail.letters) = search rules in
    fail_done d.registers d.functions d.header c.args.answer.now was c.put_verdict-in-Ok-Fail.ensures.appended
    c.put_execution-in-Ok-Fail.ensures.appended
    (appended_same (ap (model_behind d c.args.answer.now) c.from.ensures) c.put_model.ensures.appended)

pub returns-in-Err-clause-appended : goal.returns-in-Err-clause-appended
returns-in-Err-clause-appended c =
    let d = c.args.self.now in
    appended_same (sym (refused_parts d.registers d.functions d.header c.args.answer.now c.from-number.ensures c.in-Err.is))
    c.put_line.ensures.appended
