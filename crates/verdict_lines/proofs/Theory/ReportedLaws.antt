-- The report of an answer was written.
use mathlib.Core.Path.{◌≡◌, refl, sym, ap, ◌∙◌, subst}
use mathlib.Core.Bool.{Bool, true, false}
use mathlib.Core.List.{List, ◌++◌}
use Prim.Native.Nat.{ℕ, ◌^◌, ◌<◌, ◌≤◌}
use lib.Dec.{leb}
use lib.ListN.{length, get_or, drop}
use Rattle.base.specs.Choice.{pick}
use Rattle.syntax.specs.declared.MacroRead as syntax
use Rattle.syntax.specs.Reads.{Reads}
use Rattle.std.specs.Prelude.{Option, Some, None}
use Rattle.std.specs.Option.{unwrap_or}
use Rattle.report.specs.Shown.{Reported, report_of, WroteText}
use Rattle.report.specs.Bound.{Limited, letter_number, row_number}
use Rattle.report.proofs.Theory.Bound.{report_fits}
use Rattle.verdict_lines.specs.Prints.{table_pairs, most_verdict_line_bytes}
use Rattle.verdict_lines.specs.Reported.{Searched, reported, report_for, most_rows, Reports}

size_of : (b : Bool) (n : ℕ) → unwrap_or (pick b (λ _. Some n) (λ _. None)) 0 ≡ pick b (λ _. n) (λ _. 0)
size_of true n = refl
size_of false n = refl

module _ (text : List ℕ) (v : Searched) (s entry exit : List ℕ) (read : syntax.MacroRead) (shown : Reported) (written : Option ℕ) (size : ℕ)
    (registers : (r : ℕ) → get_or read.program.registers r 0 < 2 ^ 64) (functions : (f : ℕ) → get_or read.program.functions f 0 < 2 ^ 64)
    (bytes : (i : ℕ) → get_or s i 0 < 256) where
  -- The text was read, the verdict taken as the report takes it, and the report written.
  pub reports : Reads text read → shown ≡ reported v → Limited shown
      → WroteText (report_of read.program.registers read.program.functions read.program.header shown s) entry exit written
      → size ≡ unwrap_or written 0 → Reports text v s entry size exit
  unfolding report_for
  reports e f l w g = record {
    read = read;
    reads = e;
    few = λ n m r. subst (λ (x : List ℕ). length x ≤ most_verdict_line_bytes) same
        (report_fits read.program.registers read.program.functions registers functions read.program.header s bytes shown l
        (subst (λ (x : Reported). letter_number x ≤ table_pairs) (sym f) n) (subst (λ (x : Reported). row_number x s ≤ most_rows) (sym f) m) r);
    given = g ∙ ap (λ (o : Option ℕ). unwrap_or o 0) w.answered ∙ size_of (leb (length made) (length entry)) (length made)
        ∙ ap (λ (x : List ℕ). pick (leb (length x) (length entry)) (λ _. length x) λ _. 0) same;
    bytes = w.bytes ∙ ap (λ (x : List ℕ). pick (leb (length x) (length entry)) (λ _. x ++ drop (length x) entry) λ _. entry) same;
  }
    where
      made : List ℕ
      made = report_of read.program.registers read.program.functions read.program.header shown s

      same : made ≡ report_for read.program v s
      same = ap (λ (x : Reported). report_of read.program.registers read.program.functions read.program.header x s) f
