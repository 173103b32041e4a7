use Rattle.std.proofs.Common.{rules, ap, ◌∙◌, ◌≡◌, length, replicate}
use Rattle.std.proofs.lemmas.Result.{err_from_is_err_and}
use Rattle.syntax.proofs.Theory.Reads.{by_grammar}
use Rattle.search.proofs.Theory.Judged.{answered_readable, answered_refused, answered_macro}
use Rattle.search.proofs.judge_macro.Goals as goal

pub returns-in_err-program : goal.returns-in_err-program
returns-in_err-program c =
    let a = c.args in
    let p = err_from_is_err_and c.from_residual.result c.from_residual.ensures.1 in
    rw (p.1, p.2) (answered_refused a.text.now _ (by_grammar _ c.compiled.ensures.0) c.in_err-program.was a.table.now a.output.now)

pub search_macro-answer-requires : goal.search_macro-answer-requires
search_macro-answer-requires c = answered_readable c.args.text.now _ (by_grammar _ c.compiled.ensures.0) c.in_ok-program.was

pub returns : goal.returns
returns c =
    let a = c.args in
    let s = c.search_macro-answer in
    let z = c.clear in
    let l : length s.new.table ≡ length a.table.now = search rules in
    answered_macro a.text.now _ (by_grammar _ c.compiled.ensures.0) c.in_ok-program.was a.table.now a.output.now s.result z.new.table s.new.output s.ensures
    (z.ensures ∙ ap (λ n. replicate n 0) l)
