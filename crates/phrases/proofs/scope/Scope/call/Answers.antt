use Rattle.phrases.proofs.Theory.Answers.{passed_on, plain_on}
use Rattle.phrases.proofs.scope.Scope.call.Goals as goal

pub returns-in_err-f : goal.returns-in_err-f
returns-in_err-f c = rw (← c.next.ensures) (passed_on _ _ _ _ c.function.ensures c.in_err-f.was c.from_residual.ensures)

pub returns : goal.returns
returns c = rw (← c.next.ensures, plain_on _ c.function.ensures c.in_ok-f.was) c.application.ensures
