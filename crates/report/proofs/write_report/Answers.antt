use Rattle.std.proofs.Common.{rules, ℕ, get_or, Fits, w8, w64}
use Rattle.report.proofs.Theory.WroteLaws.{wrote_none, wrote_all}
use Rattle.report.proofs.Theory.Bound.{report_room}
use Rattle.report.proofs.write_report.Goals as goal

pub put_whole-size-requires : goal.put_whole-size-requires
put_whole-size-requires c =
    let d = c.args.declared in
    let registers : (r : ℕ) → Fits w64 (get_or d.registers r 0) = λ r. search rules in
    let functions : (f : ℕ) → Fits w64 (get_or d.functions f 0) = λ f. search rules in
    let few : Fits w8 d.header.registers = search rules in
    report_room d.registers d.functions (λ r. (registers r).fits) (λ f. (functions f).fits) d.header c.args.answer.now
    (λ i. (c.type_inv.answer i).fits) c.limited-verdict.result c.limited-verdict.ensures.limits few.fits

pub returns-then-out-size : goal.returns-then-out-size
returns-then-out-size c =
    wrote_none (rw c.limited-verdict.ensures.same at c.put_whole-size.ensures.place) c.if-out-size.true

pub returns : goal.returns
returns c =
    wrote_all (rw c.limited-verdict.ensures.same at c.put_whole-size.ensures.place) c.if-out-size.false
    (rw c.limited-verdict.ensures.same at c.put_whole.ensures)
