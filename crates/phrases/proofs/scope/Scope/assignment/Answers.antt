use Rattle.std.proofs.Common.{ap, Ok}
use Rattle.letters.specs.declared.Letter.{Letter}
use Rattle.grammar.specs.Tree.{letter_of}
use Rattle.grammar.specs.Reading.{assignment, right_hand_side}
use Rattle.phrases.proofs.Theory.Answers.{passed_on, plain_on, place_on, coded_on}
use Rattle.phrases.proofs.scope.Scope.assignment.Goals as goal

pub returns-in_err-x : goal.returns-in_err-x
unfolding assignment
returns-in_err-x c = passed_on _ _ _ _ c.register.ensures c.in_err-x.was c.from_residual.ensures

pub returns-in_err-b : goal.returns-in_err-b
unfolding assignment
returns-in_err-b c =
    rw (plain_on _ c.register.ensures c.in_ok-x.was)
    (passed_on _ _ _ _ c.expect.ensures c.in_err-b.was c.from_residual-in_err-b.ensures)

pub returns-in_err-letter : goal.returns-in_err-letter
unfolding assignment
returns-in_err-letter c =
    rw (plain_on _ c.register.ensures c.in_ok-x.was, place_on _ c.expect.ensures c.in_ok-b.was)
    (passed_on _ _ _ _ c.value.ensures c.in_err-letter.was c.from_residual-in_err-letter.ensures)

pub returns-in_err-e : goal.returns-in_err-e
unfolding assignment
returns-in_err-e c =
    let a = c.args.self.now in
    let (l, g, f) = coded_on letter_of (right_hand_side a.text.now a.registers.now a.functions.now a.arities.now a.first_test c.in_ok-x.x c.in_ok-b.b)
    c.value.ensures c.in_ok-letter.was in
    rw (plain_on _ c.register.ensures c.in_ok-x.was, place_on _ c.expect.ensures c.in_ok-b.was, g)
    (passed_on _ _ _ _ c.expect-2.ensures c.in_err-e.was c.from_residual-in_err-e.ensures)

pub returns : goal.returns
unfolding assignment
returns c =
    let a = c.args.self.now in
    let (l, g, f) = coded_on letter_of (right_hand_side a.text.now a.registers.now a.functions.now a.arities.now a.first_test c.in_ok-x.x c.in_ok-b.b)
    c.value.ensures c.in_ok-letter.was in
    rw (plain_on _ c.register.ensures c.in_ok-x.was, place_on _ c.expect.ensures c.in_ok-b.was, g, place_on _ c.expect-2.ensures c.in_ok-e.was)
    (ap (λ (l : Letter). Ok (l, c.in_ok-e.e)) f)
