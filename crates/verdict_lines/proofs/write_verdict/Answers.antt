use Rattle.std.proofs.Common.{rules, ℕ, get_or, Fits, w64}
use Rattle.verdict_lines.proofs.Theory.ReportedLaws.{reports}
use Rattle.verdict_lines.proofs.write_verdict.Goals as goal

pub returns : goal.returns
returns c =
    let a = c.args in
    let read = c.read-read in
    let registers : (r : ℕ) → Fits w64 (get_or read.result.program.registers r 0) = λ r. search rules in
    let functions : (f : ℕ) → Fits w64 (get_or read.result.program.functions f 0) = λ f. search rules in
    reports a.text.now a.verdict a.answer.now a.lines.now c.write_report.new.out read.result c.reported-shown.result c.write_report.result c.unwrap_or.result
    (λ r. (registers r).fits) (λ f. (functions f).fits) (λ i. (c.type_inv.answer i).fits) read.ensures c.reported-shown.ensures.0 c.reported-shown.ensures.1
    c.write_report.ensures c.unwrap_or.ensures
