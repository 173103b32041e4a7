use Rattle.std.proofs.Common.{◌≡◌, ℕ, ◌+◌, ◌*◌, ◌-◌, List, get_or, drop}
use Rattle.semantics.specs.TablesRead.{units_in}
use Rattle.text.specs.Names.{name_text}
use Rattle.text.proofs.Theory.Appending.{LeftToAppend}
use Rattle.report.specs.Lines.{start_lines}
use Rattle.report.proofs.Declared.put_starts.Given as goal

abbrev pub invariant-loop-register : goal.invariant-loop-register
invariant-loop-register l =
    let R : ℕ → List ℕ = λ r. name_text (get_or l.self.registers r 0) in
    let n = l.self.header.registers in
    (l.writer.out.ghost_name ≡ l.fn.writer.out.ghost_name)
    × LeftToAppend l.fn.writer.out.now l.fn.writer.at (start_lines R 0 (units_in 2 n (drop l.start l.answer)))
    (start_lines R l.register (units_in 2 (n - l.register) (drop (l.start + 2 * l.register) l.answer))) l.writer.out.now l.writer.at
