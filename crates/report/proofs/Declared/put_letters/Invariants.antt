use Rattle.std.proofs.Common.{◌≡◌, ◌-◌}
use Rattle.text.proofs.Theory.Appending.{LeftToAppend}
use Rattle.report.specs.Lines.{lines_of, letter_line}
use Rattle.report.specs.Shown.{names_of, letters_in}
use Rattle.report.proofs.Declared.put_letters.Given as goal

abbrev pub invariant-loop-k : goal.invariant-loop-k
invariant-loop-k l =
    let F = letter_line (names_of l.self.registers l.self.functions) l.self.header in
    (l.writer.out.ghost_name ≡ l.fn.writer.out.ghost_name)
    × LeftToAppend l.fn.writer.out.now l.fn.writer.at (lines_of F (letters_in l.self.header l.answer 0 l.count))
    (lines_of F (letters_in l.self.header l.answer l.k (l.count - l.k))) l.writer.out.now l.writer.at
