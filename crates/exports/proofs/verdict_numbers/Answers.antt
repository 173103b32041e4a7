use Rattle.std.proofs.Common.{◌≡◌, Ok, rules}
use Rattle.search.specs.declared.Verdict.TheVariants.{Pass, Fail, Incoherent}
use Rattle.exports.proofs.Laws.{numbers_pass, numbers_fail, numbers_incoherent, numbers_unjudged}
use Rattle.exports.proofs.verdict_numbers.Goals as goal

pub returns-in-Ok-Pass : goal.returns-in-Ok-Pass
returns-in-Ok-Pass c = let e : c.args.verdict ≡ Ok (Pass c.in-Ok-Pass.pairs) = search rules in numbers_pass _ _ e

pub returns-in-Ok-Fail : goal.returns-in-Ok-Fail
returns-in-Ok-Fail c = let e : c.args.verdict ≡ Ok (Fail c.in-Ok-Fail.pairs c.in-Ok-Fail.letters) = search rules in numbers_fail _ _ _ e

pub returns-in-Ok-Incoherent : goal.returns-in-Ok-Incoherent
returns-in-Ok-Incoherent c =
    let e : c.args.verdict ≡ Ok (Incoherent c.in-Ok-Incoherent.pairs c.in-Ok-Incoherent.letters) = search rules in numbers_incoherent _ _ _ e

pub returns-in-Err : goal.returns-in-Err
returns-in-Err c = numbers_unjudged _ _ _ c.in-Err.is c.from.ensures
