use Rattle.std.proofs.Common.{◌≡◌, ap, ◌∙◌, length, Ok}
use Rattle.grammar.specs.Expanded.{truth_register}
use Rattle.letters.specs.declared.Letter.{Letter}
use Rattle.phrases.specs.Codes.{comparing}
use Rattle.phrases.proofs.Theory.PhraseLaws.{names, as_read, as_refused, named-test}
use Rattle.phrases.proofs.scope.Scope.named_test.Goals as goal

pub returns-in_err-applied : goal.returns-in_err-applied
returns-in_err-applied c =
    let a = c.args.self.now in
    let n = length a.registers.now in
    as_refused (names (comparing c.args.sign n (truth_register n))) c.in_err-applied.was c.from_residual.ensures
    ∙ named-test n a.text.now a.registers.now a.functions.now a.arities.now a.first_test c.args.at c.args.sign c.result_register-register.ensures c.call.ensures

pub returns : goal.returns
returns c =
    let a = c.args.self.now in
    let n = length a.registers.now in
    let test : c.test-test.result ≡ comparing c.args.sign n (truth_register n) =
    c.test-test.ensures ∙ (λ i. comparing c.args.sign (c.result_register-register.ensures i) (c.truth_register.ensures i)) in
    ap (λ (l : Letter). Ok (names l c.in_ok-applied.applied, c.in_ok-applied.e)) test
    ∙ as_read (names (comparing c.args.sign n (truth_register n))) c.in_ok-applied.was
    ∙ named-test n a.text.now a.registers.now a.functions.now a.arities.now a.first_test c.args.at c.args.sign c.result_register-register.ensures c.call.ensures
