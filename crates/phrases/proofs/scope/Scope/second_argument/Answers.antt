use Rattle.phrases.proofs.Theory.Answers.{passed_on, plain_on, place_on}
use Rattle.phrases.proofs.scope.Scope.second_argument.Goals as goal

pub returns-in_err-z : goal.returns-in_err-z
returns-in_err-z c = passed_on _ _ _ _ c.register.ensures c.in_err-z.was c.from_residual.ensures

pub returns-in_err-e : goal.returns-in_err-e
returns-in_err-e c =
    rw (plain_on _ c.register.ensures c.in_ok-z.was)
    (passed_on _ _ _ _ c.expect.ensures c.in_err-e.was c.from_residual-in_err-e.ensures)

pub returns : goal.returns
returns c = rw (plain_on _ c.register.ensures c.in_ok-z.was, place_on _ c.expect.ensures c.in_ok-e.was)
