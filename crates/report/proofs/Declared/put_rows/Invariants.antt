use Rattle.std.proofs.Common.{◌≡◌, ◌+◌, ◌*◌, ◌-◌, map, get_or, drop}
use Rattle.letters.specs.Editions.{first_edition}
use Rattle.semantics.specs.TablesRead.{units_in, row_from}
use Rattle.text.specs.Names.{name_text}
use Rattle.text.proofs.Theory.Appending.{LeftToAppend}
use Rattle.report.specs.Lines.{lines_of, row_line}
use Rattle.report.proofs.Declared.put_rows.Given as goal

abbrev pub invariant-loop-k : goal.invariant-loop-k
invariant-loop-k l =
    let h = l.self.header in
    let G = row_line (λ f. name_text (get_or l.self.functions f 0)) h in
    (l.writer.out.ghost_name ≡ l.fn.writer.out.ghost_name)
    × LeftToAppend l.fn.writer.out.now l.fn.writer.at (lines_of G (map (row_from first_edition h) (units_in 5 l.count (drop l.start l.answer))))
    (lines_of G (map (row_from first_edition h) (units_in 5 (l.count - l.k) (drop (l.start + 5 * l.k) l.answer)))) l.writer.out.now l.writer.at
