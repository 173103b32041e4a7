use Rattle.std.proofs.Common.{◌<◌, ◌≤◌, ◌⊎◌, inl, inr, ap, ◌∙◌, Err}
use Rattle.phrases.proofs.Theory.Answers.{between_within, between_outside, between_refused}
use Rattle.phrases.proofs.scope.Scope.function.Goals as goal
use Rattle.phrases.proofs.scope.Scope.function.Goals.{else-from-f-via-then-from-f+else-f-to, else-from-f-via-else-from-f}

pub returns-in_err-f : goal.returns-in_err-f
returns-in_err-f c =
    between_refused c.args.self.now.functions.now c.args.t c.args.from c.args.to c.requires c.use_of.ensures c.in_err-f.was c.from_residual.ensures

pub returns-then-f-to : goal.returns-then-f-to
returns-then-f-to c =
    between_within c.args.self.now.functions.now c.args.t c.args.from c.args.to c.use_of.ensures c.in_ok-f.was c.if-from-f.true c.if-f-to.true

pub returns : goal.returns
returns c =
    let out : (c.in_ok-f.f < c.args.from) ⊎ (c.args.to ≤ c.in_ok-f.f) = elim c.else-from-f.branch [
      | else-from-f-via-then-from-f+else-f-to w ↦ inr w.if-f-to.false
      | else-from-f-via-else-from-f w ↦ inl w.if-from-f.false
    ] in
    ap Err c.at.ensures ∙ between_outside c.args.self.now.functions.now c.args.t c.args.from c.args.to c.use_of.ensures c.in_ok-f.was out
