use Rattle.std.proofs.Common.{length, refl, arith}
use Rattle.grammar.specs.Reading.{condition}
use Rattle.grammar.proofs.Theory.Enough.{condition_answers}
use Rattle.phrases.specs.Codes.{held_condition}
use Rattle.blocks.specs.Held.{progress, outcome}
use Rattle.blocks.specs.Outcome.{BlockRead, StatementRead, BracesRead, ElseRead, ConditionalRead, RepeatRead}
use Rattle.blocks.specs.declared.PointKind.TheVariants.{Fork}
use Rattle.blocks.proofs.Theory.Outcome.{condition_code}
use Rattle.blocks.proofs.Theory.OutcomeLaws.{fine_moved, points_joined, points_branched, points_looped}
use Rattle.blocks.proofs.Theory.CycleLaws as law
use Rattle.blocks.proofs.+block_braces_conditional_otherwise_repeat_statement.Goals as goal
use Rattle.blocks.proofs.+block_braces_conditional_otherwise_repeat_statement.Goals.{block-then-t-eq-RBRACE-via-then-t-eq-RBRACE}
use Rattle.blocks.proofs.+block_braces_conditional_otherwise_repeat_statement.Goals.{block-then-t-eq-RBRACE-via-else-t-eq-RBRACE+then-t-eq-END}

-- ── a block ──
pub block-loop-t-init : goal.block-loop-t-init
block-loop-t-init t c =
    let a = c.args.scope.now in
    let p = c.args.points.now in
    let st = progress c.args.from p in
    law.reached_start a.text.now a.registers.now a.functions.now a.arities.now a.first_test c.args.depth st st p.counted (fine_moved p c.args.from c.args.from)

pub block-returns-then-t-eq-RBRACE : goal.block-returns-then-t-eq-RBRACE
block-returns-then-t-eq-RBRACE t c =
    let a = c.args.scope.now in
    let p = c.args.points.now in
    let st = progress c.args.from p in
    let cur = progress c.loop-t.at c.loop-t.points in
    let begun = fine_moved p c.args.from c.args.from in
    elim c.then-t-eq-RBRACE.branch [
      | block-then-t-eq-RBRACE-via-then-t-eq-RBRACE w ↦
          law.block_brace a.text.now a.registers.now a.functions.now a.arities.now a.first_test c.args.depth p.count st cur c.loop-t.invariant
          c.next-t.result c.next-t.ensures st p.counted begun
          w.if-t-eq-RBRACE.true
      | block-then-t-eq-RBRACE-via-else-t-eq-RBRACE+then-t-eq-END w ↦
          law.block_end a.text.now a.registers.now a.functions.now a.arities.now a.first_test c.args.depth p.count st cur c.loop-t.invariant
          c.next-t.result c.next-t.ensures st p.counted begun
          w.if-t-eq-END.true
    ]

pub block-returns-in_err-at : goal.block-returns-in_err-at
block-returns-in_err-at t c =
    let a = c.args.scope.now in
    let p = c.args.points.now in
    let st = progress c.args.from p in
    let cur = progress c.loop-t.at c.loop-t.points in
    let one = c.statement.new.points in
    law.leaves _ (BlockRead a.text.now a.registers.now a.functions.now a.arities.now a.first_test c.args.depth st) one c.in_err-at.was c.from_residual.ensures
    (law.block_refused a.text.now a.registers.now a.functions.now a.arities.now a.first_test c.args.depth p.count st cur c.loop-t.invariant
    c.next-t.result c.next-t.ensures
    (outcome c.statement.result one) c.statement.ensures c.if-t-eq-RBRACE.false c.if-t-eq-END.false st
    (fine_moved p c.args.from c.args.from) (law.ill one c.in_err-at.was))

pub block-loop-t-smaller : goal.block-loop-t-smaller
block-loop-t-smaller t c =
    let a = c.args.scope.now in
    let p = c.args.points.now in
    let st = progress c.args.from p in
    let cur = progress c.loop-t.at c.loop-t.points in
    let one = c.statement.new.points in
    (law.reached_turn a.text.now a.registers.now a.functions.now a.arities.now a.first_test c.args.depth p.count st cur c.loop-t.invariant
    c.next-t.result c.next-t.ensures
    (progress c.in_ok-at.at one)
    (law.arrives (StatementRead a.text.now a.registers.now a.functions.now a.arities.now a.first_test c.args.depth cur) one c.in_ok-at.was c.statement.ensures)
    c.if-t-eq-RBRACE.false c.if-t-eq-END.false refl (progress c.in_ok-at.at c.join.new.self)
    (points_joined c.in_ok-at.at one c.join.new.self c.join.ensures.count p.count c.loop-t.points.count c.join.ensures.entries)).0

pub block-loop-t-preserved : goal.block-loop-t-preserved
block-loop-t-preserved t c =
    let a = c.args.scope.now in
    let p = c.args.points.now in
    let st = progress c.args.from p in
    let cur = progress c.loop-t.at c.loop-t.points in
    let one = c.statement.new.points in
    (law.reached_turn a.text.now a.registers.now a.functions.now a.arities.now a.first_test c.args.depth p.count st cur c.loop-t.invariant
    c.next-t.result c.next-t.ensures
    (progress c.in_ok-at.at one)
    (law.arrives (StatementRead a.text.now a.registers.now a.functions.now a.arities.now a.first_test c.args.depth cur) one c.in_ok-at.was c.statement.ensures)
    c.if-t-eq-RBRACE.false c.if-t-eq-END.false refl (progress c.in_ok-at.at c.join.new.self)
    (points_joined c.in_ok-at.at one c.join.new.self c.join.ensures.count p.count c.loop-t.points.count c.join.ensures.entries)).1

-- ── braces ──
pub braces-block-requires : goal.braces-block-requires
braces-block-requires t c =
    let (x, y) = law.token_on c.args.scope.now.text.now _ _ c.next-t.ensures (omega (arith, c.if-t-eq-LBRACE.true)) in
    (omega (arith, c.decreases), tt)

pub braces-returns-then-depth-eq0 : goal.braces-returns-then-depth-eq0
braces-returns-then-depth-eq0 t c =
    let a = c.args.scope.now in
    let p = c.args.points.now in
    let st = progress c.args.at p in
    law.braces_deep a.text.now a.registers.now a.functions.now a.arities.now a.first_test c.args.depth st c.next-t.result c.next-t.ensures _ p
    c.if-t-eq-LBRACE.true c.if-depth-eq0.true c.at.ensures

pub braces-returns-in_err-e : goal.braces-returns-in_err-e
braces-returns-in_err-e t c =
    let a = c.args.scope.now in
    let p = c.args.points.now in
    let st = progress c.args.at p in
    let q = c.block.new.points in
    law.leaves _ (BracesRead a.text.now a.registers.now a.functions.now a.arities.now a.first_test c.args.depth st) q c.in_err-e.was c.from_residual.ensures
    (law.braces_refused a.text.now a.registers.now a.functions.now a.arities.now a.first_test c.args.depth st c.next-t.result c.next-t.ensures
    c.if-t-eq-LBRACE.true c.if-depth-eq0.false p.counted
    (progress c.next-t.result.end p) (outcome c.block.result q) (fine_moved p c.args.at c.next-t.result.end) c.block.ensures (law.ill q c.in_err-e.was))

pub braces-returns-then-t-eq-LBRACE : goal.braces-returns-then-t-eq-LBRACE
braces-returns-then-t-eq-LBRACE t c =
    let a = c.args.scope.now in
    let p = c.args.points.now in
    let st = progress c.args.at p in
    let q = c.block.new.points in
    law.braces_read a.text.now a.registers.now a.functions.now a.arities.now a.first_test c.args.depth st c.next-t.result c.next-t.ensures
    c.if-t-eq-LBRACE.true c.if-depth-eq0.false p.counted
    (progress c.next-t.result.end p) (outcome c.block.result q) (fine_moved p c.args.at c.next-t.result.end) c.block.ensures
    c.in_ok-e.e q (law.well q c.in_ok-e.was) _ c.expect.ensures

pub braces-returns : goal.braces-returns
braces-returns t c =
    let a = c.args.scope.now in
    let p = c.args.points.now in
    let st = progress c.args.at p in
    law.braces_unfit a.text.now a.registers.now a.functions.now a.arities.now a.first_test c.args.depth st c.next-t.result c.next-t.ensures _ p
    c.if-t-eq-LBRACE.false c.unfitting.ensures

-- ── if ──
pub conditional-returns-in_err-condition : goal.conditional-returns-in_err-condition
conditional-returns-in_err-condition t c =
    let a = c.args.scope.now in
    let p = c.args.points.now in
    let st = progress c.args.at p in
    let r = outcome c.from_residual.result p in
    law.conditional_refused a.text.now a.registers.now a.functions.now a.arities.now a.first_test st r
    (law.refused_outcome (λ x e. (held_condition (length a.registers.now) x, e)) (condition_code Fork (length a.registers.now))
    (condition a.text.now a.registers.now a.functions.now a.arities.now a.first_test c.args.at) st p c.from_residual.result
    (condition_answers a.text.now a.registers.now a.functions.now a.arities.now a.first_test c.args.at) c.condition.ensures c.in_err-condition.was
    c.from_residual.ensures)
    c.args.depth (law.exit_ill c.from_residual.result p c.in_err-condition.was c.from_residual.ensures)

pub conditional-overflow_sub-test : goal.conditional-overflow_sub-test
conditional-overflow_sub-test t c =
    let a = c.args.scope.now in
    let p = c.args.points.now in
    let st = progress c.args.at p in
    let q = progress c.in_ok-condition.a c.pose.new.self in
    let tested = law.posed_outcome (length a.registers.now) Fork (condition a.text.now a.registers.now a.functions.now a.arities.now a.first_test
    c.args.at) c.args.at p c.pose.new.self
    c.condition.ensures c.in_ok-condition.was c.pose.ensures in
    let (x, y, z, u) = law.condition_at a.text.now a.registers.now a.functions.now a.arities.now a.first_test st q tested refl in
    omega arith

pub conditional-braces-requires : goal.conditional-braces-requires
conditional-braces-requires t c =
    let a = c.args.scope.now in
    let p = c.args.points.now in
    let st = progress c.args.at p in
    let q = progress c.in_ok-condition.a c.pose.new.self in
    let tested = law.posed_outcome (length a.registers.now) Fork (condition a.text.now a.registers.now a.functions.now a.arities.now a.first_test
    c.args.at) c.args.at p c.pose.new.self
    c.condition.ensures c.in_ok-condition.was c.pose.ensures in
    let (x, y, z, u) = law.condition_at a.text.now a.registers.now a.functions.now a.arities.now a.first_test st q tested refl in
    (omega (arith, c.decreases), tt)

pub conditional-returns-in_err-b : goal.conditional-returns-in_err-b
conditional-returns-in_err-b t c =
    let a = c.args.scope.now in
    let p = c.args.points.now in
    let st = progress c.args.at p in
    let q = progress c.in_ok-condition.a c.pose.new.self in
    let tested = law.posed_outcome (length a.registers.now) Fork (condition a.text.now a.registers.now a.functions.now a.arities.now a.first_test
    c.args.at) c.args.at p c.pose.new.self
    c.condition.ensures c.in_ok-condition.was c.pose.ensures in
    let ys = c.braces.new.points in
    law.leaves _ (ConditionalRead a.text.now a.registers.now a.functions.now a.arities.now a.first_test c.args.depth st) ys c.in_err-b.was
    c.from_residual-in_err-b.ensures
    (law.conditional_braces a.text.now a.registers.now a.functions.now a.arities.now a.first_test st q tested c.args.depth refl (outcome
    c.braces.result ys) c.braces.ensures (law.ill ys c.in_err-b.was))

pub conditional-otherwise-requires : goal.conditional-otherwise-requires
conditional-otherwise-requires t c =
    let a = c.args.scope.now in
    let p = c.args.points.now in
    let st = progress c.args.at p in
    let q = progress c.in_ok-condition.a c.pose.new.self in
    let tested = law.posed_outcome (length a.registers.now) Fork (condition a.text.now a.registers.now a.functions.now a.arities.now a.first_test
    c.args.at) c.args.at p c.pose.new.self
    c.condition.ensures c.in_ok-condition.was c.pose.ensures in
    let y = progress c.in_ok-b.b c.braces.new.points in
    let B = law.arrives (BracesRead a.text.now a.registers.now a.functions.now a.arities.now a.first_test c.args.depth q) c.braces.new.points
    c.in_ok-b.was c.braces.ensures in
    let (x, y', z, u) = law.condition_at a.text.now a.registers.now a.functions.now a.arities.now a.first_test st q tested refl in
    let (v, w) = law.braces-at a.text.now a.registers.now a.functions.now a.arities.now a.first_test c.args.depth q y B refl in
    (omega (arith, c.decreases), tt)

pub conditional-returns-in_err-e : goal.conditional-returns-in_err-e
conditional-returns-in_err-e t c =
    let a = c.args.scope.now in
    let p = c.args.points.now in
    let st = progress c.args.at p in
    let q = progress c.in_ok-condition.a c.pose.new.self in
    let tested = law.posed_outcome (length a.registers.now) Fork (condition a.text.now a.registers.now a.functions.now a.arities.now a.first_test
    c.args.at) c.args.at p c.pose.new.self
    c.condition.ensures c.in_ok-condition.was c.pose.ensures in
    let y = progress c.in_ok-b.b c.braces.new.points in
    let B = law.arrives (BracesRead a.text.now a.registers.now a.functions.now a.arities.now a.first_test c.args.depth q) c.braces.new.points
    c.in_ok-b.was c.braces.ensures in
    let zs = c.otherwise.new.points in
    law.leaves _ (ConditionalRead a.text.now a.registers.now a.functions.now a.arities.now a.first_test c.args.depth st) zs c.in_err-e.was
    c.from_residual-in_err-e.ensures
    (law.conditional_else a.text.now a.registers.now a.functions.now a.arities.now a.first_test st q tested c.args.depth refl y B refl (outcome
    c.otherwise.result zs) c.otherwise.ensures (law.ill zs c.in_err-e.was))

pub conditional-returns : goal.conditional-returns
conditional-returns t c =
    let a = c.args.scope.now in
    let p = c.args.points.now in
    let st = progress c.args.at p in
    let q = progress c.in_ok-condition.a c.pose.new.self in
    let tested = law.posed_outcome (length a.registers.now) Fork (condition a.text.now a.registers.now a.functions.now a.arities.now a.first_test
    c.args.at) c.args.at p c.pose.new.self
    c.condition.ensures c.in_ok-condition.was c.pose.ensures in
    let y = progress c.in_ok-b.b c.braces.new.points in
    let B = law.arrives (BracesRead a.text.now a.registers.now a.functions.now a.arities.now a.first_test c.args.depth q) c.braces.new.points
    c.in_ok-b.was c.braces.ensures in
    let zs = c.otherwise.new.points in
    law.conditional_read a.text.now a.registers.now a.functions.now a.arities.now a.first_test st q tested c.args.depth refl y B refl (progress c.in_ok-e.e zs)
    (law.arrives (ElseRead a.text.now a.registers.now a.functions.now a.arities.now a.first_test c.args.depth y) zs c.in_ok-e.was c.otherwise.ensures) refl
    (progress c.in_ok-e.e c.branch-points.new.self)
    (points_branched c.in_ok-e.e zs c.branch-points.new.self c.branch-points.ensures.count _ _ c.branch-points.ensures.entries)

-- ── while ──
pub repeat-returns-in_err-condition : goal.repeat-returns-in_err-condition
repeat-returns-in_err-condition t c =
    let a = c.args.scope.now in
    let p = c.args.points.now in
    let st = progress c.args.at p in
    let r = outcome c.from_residual.result p in
    law.repeat_refused a.text.now a.registers.now a.functions.now a.arities.now a.first_test st r
    (law.refused_outcome (λ x e. (held_condition (length a.registers.now) x, e)) (condition_code Fork (length a.registers.now))
    (condition a.text.now a.registers.now a.functions.now a.arities.now a.first_test c.args.at) st p c.from_residual.result
    (condition_answers a.text.now a.registers.now a.functions.now a.arities.now a.first_test c.args.at) c.condition.ensures c.in_err-condition.was
    c.from_residual.ensures)
    c.args.depth (law.exit_ill c.from_residual.result p c.in_err-condition.was c.from_residual.ensures)

pub repeat-overflow_sub-test : goal.repeat-overflow_sub-test
repeat-overflow_sub-test t c =
    let a = c.args.scope.now in
    let p = c.args.points.now in
    let st = progress c.args.at p in
    let q = progress c.in_ok-condition.a c.pose.new.self in
    let tested = law.posed_outcome (length a.registers.now) Fork (condition a.text.now a.registers.now a.functions.now a.arities.now a.first_test
    c.args.at) c.args.at p c.pose.new.self
    c.condition.ensures c.in_ok-condition.was c.pose.ensures in
    let (x, y, z, u) = law.condition_at a.text.now a.registers.now a.functions.now a.arities.now a.first_test st q tested refl in
    omega arith

pub repeat-braces-requires : goal.repeat-braces-requires
repeat-braces-requires t c =
    let a = c.args.scope.now in
    let p = c.args.points.now in
    let st = progress c.args.at p in
    let q = progress c.in_ok-condition.a c.pose.new.self in
    let tested = law.posed_outcome (length a.registers.now) Fork (condition a.text.now a.registers.now a.functions.now a.arities.now a.first_test
    c.args.at) c.args.at p c.pose.new.self
    c.condition.ensures c.in_ok-condition.was c.pose.ensures in
    let (x, y, z, u) = law.condition_at a.text.now a.registers.now a.functions.now a.arities.now a.first_test st q tested refl in
    (omega (arith, c.decreases), tt)

pub repeat-returns-in_err-e : goal.repeat-returns-in_err-e
repeat-returns-in_err-e t c =
    let a = c.args.scope.now in
    let p = c.args.points.now in
    let st = progress c.args.at p in
    let q = progress c.in_ok-condition.a c.pose.new.self in
    let tested = law.posed_outcome (length a.registers.now) Fork (condition a.text.now a.registers.now a.functions.now a.arities.now a.first_test
    c.args.at) c.args.at p c.pose.new.self
    c.condition.ensures c.in_ok-condition.was c.pose.ensures in
    let ys = c.braces.new.points in
    law.leaves _ (RepeatRead a.text.now a.registers.now a.functions.now a.arities.now a.first_test c.args.depth st) ys c.in_err-e.was
    c.from_residual-in_err-e.ensures
    (law.repeat_braces a.text.now a.registers.now a.functions.now a.arities.now a.first_test st q tested c.args.depth refl (outcome c.braces.result
    ys) c.braces.ensures (law.ill ys c.in_err-e.was))

pub repeat-returns : goal.repeat-returns
repeat-returns t c =
    let a = c.args.scope.now in
    let p = c.args.points.now in
    let st = progress c.args.at p in
    let q = progress c.in_ok-condition.a c.pose.new.self in
    let tested = law.posed_outcome (length a.registers.now) Fork (condition a.text.now a.registers.now a.functions.now a.arities.now a.first_test
    c.args.at) c.args.at p c.pose.new.self
    c.condition.ensures c.in_ok-condition.was c.pose.ensures in
    let y = progress c.in_ok-e.e c.braces.new.points in
    let B = law.arrives (BracesRead a.text.now a.registers.now a.functions.now a.arities.now a.first_test c.args.depth q) c.braces.new.points
    c.in_ok-e.was c.braces.ensures in
    law.repeat_read a.text.now a.registers.now a.functions.now a.arities.now a.first_test st q tested c.args.depth refl y B refl
    (progress c.in_ok-e.e c.repeat_from.new.self)
    (points_looped c.in_ok-e.e c.braces.new.points c.repeat_from.new.self c.repeat_from.ensures.count _ _ c.repeat_from.ensures.entries)

-- ── else ──
pub otherwise-braces-requires : goal.otherwise-braces-requires
otherwise-braces-requires t c =
    let (x, y) = law.token_on c.args.scope.now.text.now _ _ c.next-t.ensures (omega (arith, c.if-t-eq-ELSE.true)) in
    (omega (arith, c.decreases), tt)

pub otherwise-returns-then-t-eq-ELSE : goal.otherwise-returns-then-t-eq-ELSE
otherwise-returns-then-t-eq-ELSE t c =
    let a = c.args.scope.now in
    let p = c.args.points.now in
    let st = progress c.args.at p in
    law.else_present a.text.now a.registers.now a.functions.now a.arities.now a.first_test c.args.depth st c.next-t.result c.next-t.ensures (progress
    c.next-t.result.end p)
    (outcome c.braces.result c.braces.new.points) c.if-t-eq-ELSE.true p.counted (fine_moved p c.args.at c.next-t.result.end) c.braces.ensures

pub otherwise-returns : goal.otherwise-returns
otherwise-returns t c =
    let a = c.args.scope.now in
    let p = c.args.points.now in
    let st = progress c.args.at p in
    law.else_absent a.text.now a.registers.now a.functions.now a.arities.now a.first_test c.args.depth st c.next-t.result c.next-t.ensures st
    c.if-t-eq-ELSE.false (fine_moved p c.args.at c.args.at)

-- ── a statement ──
pub statement-conditional-requires : goal.statement-conditional-requires
statement-conditional-requires t c =
    let (x, y) = law.token_on c.args.scope.now.text.now _ _ c.next-t.ensures (omega (arith, c.if-t-eq-IF.true)) in
    (omega (arith, c.decreases), tt)

pub statement-returns-then-t-eq-IF : goal.statement-returns-then-t-eq-IF
statement-returns-then-t-eq-IF t c =
    let a = c.args.scope.now in
    let p = c.args.points.now in
    let st = progress c.args.at p in
    law.statement_if a.text.now a.registers.now a.functions.now a.arities.now a.first_test c.args.depth st c.next-t.result c.next-t.ensures p.counted
    (progress c.next-t.result.end p)
    (outcome c.conditional.result c.conditional.new.points) (fine_moved p c.args.at c.next-t.result.end) c.if-t-eq-IF.true c.conditional.ensures

pub statement-repeat-requires : goal.statement-repeat-requires
statement-repeat-requires t c =
    let (x, y) = law.token_on c.args.scope.now.text.now _ _ c.next-t.ensures (omega (arith, c.if-t-eq-WHILE.true)) in
    (omega (arith, c.decreases), tt)

pub statement-returns-then-t-eq-WHILE : goal.statement-returns-then-t-eq-WHILE
statement-returns-then-t-eq-WHILE t c =
    let a = c.args.scope.now in
    let p = c.args.points.now in
    let st = progress c.args.at p in
    law.statement_while a.text.now a.registers.now a.functions.now a.arities.now a.first_test c.args.depth st c.next-t.result c.next-t.ensures
    p.counted (progress c.next-t.result.end p)
    (outcome c.repeat.result c.repeat.new.points) (fine_moved p c.args.at c.next-t.result.end) c.if-t-eq-WHILE.true c.repeat.ensures
