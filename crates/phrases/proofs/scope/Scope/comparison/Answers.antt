use Rattle.std.proofs.Common.{ap, ◌∙◌, Ok, length}
use Rattle.letters.specs.declared.Letter.{Letter}
use Rattle.grammar.specs.Reading.{comparison, sign_t}
use Rattle.phrases.specs.Codes.{sign_of, comparing}
use Rattle.phrases.proofs.Theory.Answers.{passed_on, plain_on, coded_on, compared_test}
use Rattle.phrases.proofs.scope.Scope.comparison.Goals as goal

pub returns-in_err-x : goal.returns-in_err-x
unfolding comparison
returns-in_err-x c = passed_on _ _ _ _ c.register.ensures c.in_err-x.was c.from_residual.ensures

pub returns-in_err-sign : goal.returns-in_err-sign
unfolding comparison
returns-in_err-sign c =
    rw (plain_on _ c.register.ensures c.in_ok-x.was, ← c.next.ensures)
    (passed_on _ _ _ _ c.of.ensures c.in_err-sign.was c.from_residual-in_err-sign.ensures)

pub returns-in_err-y : goal.returns-in_err-y
unfolding comparison
returns-in_err-y c =
    let (q, g, f) = coded_on sign_of (sign_t c.next.result) c.of.ensures c.in_ok-sign.was in
    rw (plain_on _ c.register.ensures c.in_ok-x.was, ← c.next.ensures, g)
    (passed_on _ _ _ _ c.register-2.ensures c.in_err-y.was c.from_residual-in_err-y.ensures)

pub returns : goal.returns
unfolding comparison
returns c =
    let (q, g, f) = coded_on sign_of (sign_t c.next.result) c.of.ensures c.in_ok-sign.was in
    rw (plain_on _ c.register.ensures c.in_ok-x.was, ← c.next.ensures, g, plain_on _ c.register-2.ensures c.in_ok-y.was)
    (ap (λ (l : Letter). Ok (l, c.in_ok-y.e)) (c.test.ensures ∙ ap (λ s. comparing s c.in_ok-x.x c.in_ok-y.y) f
    ∙ compared_test (length c.args.self.now.registers.now) q c.in_ok-x.x c.in_ok-y.y))
