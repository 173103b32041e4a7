use Rattle.std.proofs.Common.{rules, sym, ap, ◌∙◌, ◌≡◌, Ok, Err}
use Rattle.search.specs.declared.Verdict.TheVariants.{Pass, Fail, Incoherent}
use Rattle.verdict_lines.specs.Reported.{reported}
use Rattle.verdict_lines.proofs.reported.Goals as goal

pub returns-in-Ok-Pass : goal.returns-in-Ok-Pass
unfolding reported
returns-in-Ok-Pass c =
    let was : c.args.verdict ≡ Ok (Pass c.in-Ok-Pass.pairs) = search rules in
    (ap reported (sym was), search rules)

pub returns-in-Ok-Fail : goal.returns-in-Ok-Fail
unfolding reported
returns-in-Ok-Fail c =
    let was : c.args.verdict ≡ Ok (Fail c.in-Ok-Fail.pairs c.in-Ok-Fail.letters) = search rules in
    (ap reported (sym was), (search rules, search rules))

pub returns-in-Ok-Incoherent : goal.returns-in-Ok-Incoherent
unfolding reported
returns-in-Ok-Incoherent c =
    let was : c.args.verdict ≡ Ok (Incoherent c.in-Ok-Incoherent.pairs c.in-Ok-Incoherent.letters) = search rules in
    (ap reported (sym was), (search rules, search rules))

pub returns-in-Err : goal.returns-in-Err
unfolding reported
returns-in-Err c = (ap Err c.from.ensures ∙ ap reported (sym c.in-Err.is), search rules)
