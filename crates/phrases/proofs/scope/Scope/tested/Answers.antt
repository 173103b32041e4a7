use Rattle.std.proofs.Common.{ap, length, Ok}
use Rattle.grammar.specs.Reading.{condition, ended_condition}
use Rattle.phrases.specs.Codes.{held_condition}
use Rattle.phrases.specs.declared.Condition.{Condition}
use Rattle.phrases.proofs.Theory.Answers.{passed_on, place_on, coded_on}
use Rattle.phrases.proofs.scope.Scope.tested.Goals as goal

pub returns-in_err-condition : goal.returns-in_err-condition
unfolding ended_condition
returns-in_err-condition c = passed_on _ _ _ _ c.condition.ensures c.in_err-condition.was c.from_residual.ensures

pub returns-in_err-e : goal.returns-in_err-e
unfolding ended_condition
returns-in_err-e c =
    let a = c.args.self.now in
    let (x, g, f) = coded_on (held_condition (length a.registers.now))
    (condition a.text.now a.registers.now a.functions.now a.arities.now a.first_test c.args.at) c.condition.ensures c.in_ok-condition.was in
    rw g (passed_on _ _ _ _ c.expect.ensures c.in_err-e.was c.from_residual-in_err-e.ensures)

pub returns : goal.returns
unfolding ended_condition
returns c =
    let a = c.args.self.now in
    let (x, g, f) = coded_on (held_condition (length a.registers.now))
    (condition a.text.now a.registers.now a.functions.now a.arities.now a.first_test c.args.at) c.condition.ensures c.in_ok-condition.was in
    rw (g, place_on _ c.expect.ensures c.in_ok-e.was) (ap (λ (d : Condition). Ok (d, c.in_ok-e.e)) f)
