-- The report of what the search has answered on a text, as the code makes it.
use Rattle.std.specs.Prelude.{Result, Ok, Err, ◌≡◌, List, ◌++◌, ℕ, ◌+◌, ◌%◌, ◌≤◌, leb, length, drop}
use Rattle.base.specs.Choice.{pick}
use Rattle.letters.specs.Editions.{most_registers}
use Rattle.letters.specs.declared.reasons.Refused.{Refused}
use Rattle.letters.specs.Reasons.{number_of}
use Rattle.syntax.specs.declared.CompiledMacro as held
use Rattle.syntax.specs.declared.MacroRead.{MacroRead}
use Rattle.syntax.specs.Reads.{Reads}
use Rattle.search.specs.declared.Verdict as search
use Rattle.search.specs.declared.Verdict.TheVariants.{Pass, Fail, Incoherent}
use Rattle.report.specs.declared.ReportedVerdict.TheVariants as printed
use Rattle.report.specs.Bound.{letter_number, row_number}
use Rattle.report.specs.Shown.{Reported, report_of, word_values}
use Rattle.verdict_lines.specs.Prints.{table_pairs, most_verdict_line_bytes}

-- What the search answers: a verdict, or a refusal.
abbrev pub Searched : Type 0
Searched = Result search.Verdict Refused

-- The same as the report takes it. Its letters are fewer than `word_values`.
unfoldable pub reported : Searched → Reported
reported (Ok (Pass pairs)) = Ok (printed.Pass pairs)
reported (Ok (Fail pairs letters)) = Ok (printed.Fail pairs (letters % word_values))
reported (Ok (Incoherent pairs letters)) = Ok (printed.Incoherent pairs (letters % word_values))
reported (Err r) = Err record { number = number_of r.reason; place = r.place }

-- The report on a macro as the reader's struct holds it; the bytes of the answer are in s.
unfoldable pub report_for : held.CompiledMacro → Searched → List ℕ → List ℕ
report_for program verdict s = report_of program.registers program.functions program.header (reported verdict) s

-- A model has no more rows than its execution computes terms: one for each letter, and one for each register.
abbrev pub most_rows : ℕ
most_rows = table_pairs + most_registers

-- The text was read, and the report was written into a lent buffer, if it fits; and it is not long if it has few letters and rows.
pub record Reports (text : List ℕ) (verdict : Searched) (s entry : List ℕ) (size : ℕ) (exit : List ℕ) : Type 0 where
  pub read : MacroRead
  pub reads : Reads text read
  pub few : letter_number (reported verdict) ≤ table_pairs → row_number (reported verdict) s ≤ most_rows → read.program.header.registers ≤ most_registers
      → length (report_for read.program verdict s) ≤ most_verdict_line_bytes
  pub given : size ≡ pick (leb (length (report_for read.program verdict s)) (length entry)) (λ _. length (report_for read.program verdict s)) λ _. 0
  pub bytes : exit ≡ pick (leb (length (report_for read.program verdict s)) (length entry))
      (λ _. report_for read.program verdict s ++ drop (length (report_for read.program verdict s)) entry) λ _. entry
