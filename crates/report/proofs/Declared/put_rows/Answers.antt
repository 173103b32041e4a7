use Rattle.std.proofs.Common.{ℕ, List, get_or, refl, sym, ap, ◌∙◌}
use Rattle.letters.specs.Editions.{first_edition}
use Rattle.semantics.specs.Tables.{Row}
use Rattle.semantics.specs.TablesRead.{row_from}
use Rattle.text.specs.Names.{name_text}
use Rattle.text.proofs.Theory.Appending.{left_all, left_next, left_none, left_room, left_same, room_same, appended_same}
use Rattle.report.specs.Lines.{row_line}
use Rattle.report.proofs.Theory.ShownLaws.{row_lines_start, row_lines_next, row_lines_none}
use Rattle.report.proofs.Declared.put_rows.Goals as goal

pub loop-k-init : goal.loop-k-init
loop-k-init c =
    let d = c.args.self.now in
    let G : Row → List ℕ = row_line (λ f. name_text (get_or d.functions f 0)) d.header in
    (refl, left_same (row_lines_start G d.header c.args.answer.now c.args.start c.args.count) (left_all _ _ _))

-- in a turn there are left the line of the row at k and the lines behind it
pub put_row-requires : goal.put_row-requires
put_row-requires c =
    let d = c.args.self.now in
    let G : Row → List ℕ = row_line (λ f. name_text (get_or d.functions f 0)) d.header in
    let left = left_same (row_lines_next G d.header c.args.answer.now c.args.start c.args.count c.loop-k.k c.loop-k-test.true) c.loop-k.invariant.1 in
    room_same (ap (λ n. G (row_from first_edition d.header n)) (sym c.row_at-row.ensures)) (left_room _ _ c.requires.room left)

pub loop-k-preserved : goal.loop-k-preserved
loop-k-preserved c =
    let d = c.args.self.now in
    let G : Row → List ℕ = row_line (λ f. name_text (get_or d.functions f 0)) d.header in
    let left = left_same (row_lines_next G d.header c.args.answer.now c.args.start c.args.count c.loop-k.k c.loop-k-test.true) c.loop-k.invariant.1 in (
      c.put_row.ensures.same_buffer ∙ c.loop-k.invariant.0,
      left_next _ _ left (appended_same (ap (λ n. G (row_from first_edition d.header n)) c.row_at-row.ensures) c.put_row.ensures.appended),
    )

pub returns-clause-appended : goal.returns-clause-appended
returns-clause-appended c =
    let d = c.args.self.now in
    let G : Row → List ℕ = row_line (λ f. name_text (get_or d.functions f 0)) d.header in
    left_none (left_same (row_lines_none G d.header c.args.answer.now c.args.start c.args.count c.loop-k.k c.loop-k-test.false) c.loop-k.invariant.1)
