use Rattle.std.proofs.Common.{length, refl, ◌∷◌, []}
use Rattle.grammar.specs.Tree.{letter_of}
use Rattle.grammar.specs.Reading.{assignment, ended_condition}
use Rattle.grammar.proofs.Theory.Enough.{tested_answers, assignment_answers}
use Rattle.phrases.specs.Codes.{held_condition}
use Rattle.blocks.specs.Held.{progress}
use Rattle.blocks.specs.Outcome.{waiting}
use Rattle.blocks.specs.declared.PointKind.TheVariants.{Step, Check}
use Rattle.blocks.proofs.Theory.Outcome.{condition_code}
use Rattle.blocks.proofs.Theory.CycleLaws as law
use Rattle.blocks.proofs.plain.Goals as goal

pub returns-then-k-eq-SKIP : goal.returns-then-k-eq-SKIP
returns-then-k-eq-SKIP c =
    let a = c.args.scope.now in
    let p = c.args.points.now in
    let st = progress c.args.at p in
    law.plain_skip a.text.now a.registers.now a.functions.now a.arities.now a.first_test c.args.t st _ p c.args.at refl c.if-k-eq-SKIP.true c.expect.ensures

pub returns-in_err-condition : goal.returns-in_err-condition
returns-in_err-condition c =
    let a = c.args.scope.now in
    let p = c.args.points.now in
    let st = progress c.args.at p in
    law.plain_assume a.text.now a.registers.now a.functions.now a.arities.now a.first_test c.args.t st _ c.if-k-eq-ASSUME.true
    (law.refused_outcome (λ x e. (held_condition (length a.registers.now) x, e)) (condition_code Step (length a.registers.now))
    (ended_condition a.text.now a.registers.now a.functions.now a.arities.now a.first_test c.args.t.end) st p _
    (tested_answers a.text.now a.registers.now a.functions.now a.arities.now a.first_test c.args.t.end) c.tested.ensures c.in_err-condition.was
    c.from_residual.ensures)

pub returns-then-k-eq-ASSUME : goal.returns-then-k-eq-ASSUME
returns-then-k-eq-ASSUME c =
    let a = c.args.scope.now in
    let p = c.args.points.now in
    let st = progress c.args.at p in
    law.plain_assume a.text.now a.registers.now a.functions.now a.arities.now a.first_test c.args.t st (progress c.in_ok-condition.e c.pose.new.self)
    c.if-k-eq-ASSUME.true
    (law.posed_outcome (length a.registers.now) Step (ended_condition a.text.now a.registers.now a.functions.now a.arities.now a.first_test
    c.args.t.end) c.args.at p c.pose.new.self
    c.tested.ensures c.in_ok-condition.was c.pose.ensures)

pub returns-in_err-condition-2 : goal.returns-in_err-condition-2
returns-in_err-condition-2 c =
    let a = c.args.scope.now in
    let p = c.args.points.now in
    let st = progress c.args.at p in
    law.plain_assert a.text.now a.registers.now a.functions.now a.arities.now a.first_test c.args.t st _ c.if-k-eq-ASSERT.true
    (law.refused_outcome (λ x e. (held_condition (length a.registers.now) x, e)) (condition_code Check (length a.registers.now))
    (ended_condition a.text.now a.registers.now a.functions.now a.arities.now a.first_test c.args.t.end) st p _
    (tested_answers a.text.now a.registers.now a.functions.now a.arities.now a.first_test c.args.t.end) c.tested-then-k-eq-ASSERT.ensures
    c.in_err-condition-2.was c.from_residual-in_err-condition-2.ensures)

pub returns-then-k-eq-ASSERT : goal.returns-then-k-eq-ASSERT
returns-then-k-eq-ASSERT c =
    let a = c.args.scope.now in
    let p = c.args.points.now in
    let st = progress c.args.at p in
    law.plain_assert a.text.now a.registers.now a.functions.now a.arities.now a.first_test c.args.t st (progress c.in_ok-condition-2.e
    c.pose-then-k-eq-ASSERT.new.self) c.if-k-eq-ASSERT.true
    (law.posed_outcome (length a.registers.now) Check (ended_condition a.text.now a.registers.now a.functions.now a.arities.now a.first_test
    c.args.t.end) c.args.at p c.pose-then-k-eq-ASSERT.new.self
    c.tested-then-k-eq-ASSERT.ensures c.in_ok-condition-2.was c.pose-then-k-eq-ASSERT.ensures)

pub returns-in_err-letter : goal.returns-in_err-letter
returns-in_err-letter c =
    let a = c.args.scope.now in
    let p = c.args.points.now in
    let st = progress c.args.at p in
    law.plain_assign a.text.now a.registers.now a.functions.now a.arities.now a.first_test c.args.t st c.if-k-eq-SKIP.false c.if-k-eq-ASSUME.false
    c.if-k-eq-ASSERT.false _ c.is_name.ensures _ c.if-is_name.true
    (law.refused_outcome (λ x e. (letter_of x, e)) (λ x _. waiting Step (letter_of x) ∷ []) (assignment a.text.now a.registers.now a.functions.now
    a.arities.now a.first_test c.args.at) st p _
    (assignment_answers a.text.now a.registers.now a.functions.now a.arities.now a.first_test c.args.at) c.assignment.ensures c.in_err-letter.was
    c.from_residual-in_err-letter.ensures)

pub returns-then-is_name : goal.returns-then-is_name
returns-then-is_name c =
    let a = c.args.scope.now in
    let p = c.args.points.now in
    let st = progress c.args.at p in
    law.plain_assign a.text.now a.registers.now a.functions.now a.arities.now a.first_test c.args.t st c.if-k-eq-SKIP.false c.if-k-eq-ASSUME.false
    c.if-k-eq-ASSERT.false _ c.is_name.ensures (progress c.in_ok-letter.e c.push.new.self) c.if-is_name.true
    (law.assigned_outcome (assignment a.text.now a.registers.now a.functions.now a.arities.now a.first_test c.args.at) c.args.at p c.push.new.self
    c.assignment.ensures c.in_ok-letter.was c.push.ensures)

pub returns : goal.returns
returns c =
    let a = c.args.scope.now in
    let p = c.args.points.now in
    let st = progress c.args.at p in
    law.plain_unfit a.text.now a.registers.now a.functions.now a.arities.now a.first_test c.args.t st c.if-k-eq-SKIP.false c.if-k-eq-ASSUME.false
    c.if-k-eq-ASSERT.false _ c.is_name.ensures _ p c.if-is_name.false c.unfitting.ensures
