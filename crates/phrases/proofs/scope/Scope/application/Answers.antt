use Rattle.grammar.specs.Reading.{applied}
use Rattle.phrases.proofs.Theory.Answers.{passed_on, plain_on, place_on}
use Rattle.phrases.proofs.scope.Scope.application.Goals as goal

pub returns-in_err-b : goal.returns-in_err-b
unfolding applied
returns-in_err-b c = passed_on _ _ _ _ c.expect.ensures c.in_err-b.was c.from_residual.ensures

pub returns-in_err-y : goal.returns-in_err-y
unfolding applied
returns-in_err-y c =
    rw (place_on _ c.expect.ensures c.in_ok-b.was)
    (passed_on _ _ _ _ c.register.ensures c.in_err-y.was c.from_residual-in_err-y.ensures)

pub returns : goal.returns
unfolding applied
returns c = rw (place_on _ c.expect.ensures c.in_ok-b.was, plain_on _ c.register.ensures c.in_ok-y.was) c.arguments.ensures
