use Rattle.std.proofs.Common.{◌≡◌, ℕ, ◌+◌, ◌*◌, List, map, get_or, drop, sym}
use Rattle.letters.specs.Editions.{first_edition}
use Rattle.semantics.specs.TablesRead.{units_in, row_from}
use Rattle.text.specs.Names.{name_text}
use Rattle.text.proofs.Theory.Appending.{room_same, appended_same}
use Rattle.report.specs.declared.Declared.{Declared}
use Rattle.report.specs.Lines.{lines_of, row_line}
use Rattle.report.specs.Shown.{names_of}
use Rattle.report.proofs.Theory.ShownLaws.{rows_part, values_room, starts_room, rows_room, model_done}
use Rattle.report.proofs.Theory.Forms.{values_form}
use Rattle.report.proofs.Declared.put_model.Goals as goal

-- the lines of n rows, behind the initial values of r registers
abbrev rows_behind : Declared → List ℕ → ℕ → ℕ → ℕ → List ℕ
rows_behind d s start n r =
    lines_of (row_line (λ f. name_text (get_or d.functions f 0)) d.header) (map (row_from first_edition d.header) (units_in 5 n (drop (start + 4 + 2 * r) s)))

rows_same : (d : Declared) (s : List ℕ) (start : ℕ) {n m r : ℕ} → n ≡ m → r ≡ d.header.registers
    → rows_behind d s start n r ≡ rows_part (names_of d.registers d.functions) d.header s start m
rows_same d s start e f = rw (e, f)

pub put_line-requires : goal.put_line-requires
put_line-requires c =
    let d = c.args.self.now in
    room_same (values_form c.word_at-values.ensures.0)
    (values_room (names_of d.registers d.functions) d.header c.args.answer.now c.args.start c.requires.room)

pub put_starts-requires : goal.put_starts-requires
put_starts-requires c =
    let d = c.args.self.now in
    let values = appended_same (sym (values_form c.word_at-values.ensures.0)) c.put_line.ensures.appended in
    starts_room (names_of d.registers d.functions) d.header c.args.answer.now c.args.start c.requires.room values

pub put_rows-requires-clause-room : goal.put_rows-requires-clause-room
put_rows-requires-clause-room c =
    let d = c.args.self.now in
    let values = appended_same (sym (values_form c.word_at-values.ensures.0)) c.put_line.ensures.appended in
    room_same (sym (rows_same d c.args.answer.now c.args.start c.word_at-rows.ensures.0 c.from.ensures))
    (rows_room (names_of d.registers d.functions) d.header c.args.answer.now c.args.start c.requires.room values c.put_starts.ensures.appended)

pub returns-clause-appended : goal.returns-clause-appended
returns-clause-appended c =
    let d = c.args.self.now in
    let values = appended_same (sym (values_form c.word_at-values.ensures.0)) c.put_line.ensures.appended in
    let rows = appended_same (rows_same d c.args.answer.now c.args.start c.word_at-rows.ensures.0 c.from.ensures) c.put_rows.ensures.appended in
    model_done (names_of d.registers d.functions) d.header c.args.answer.now c.args.start values c.put_starts.ensures.appended rows
