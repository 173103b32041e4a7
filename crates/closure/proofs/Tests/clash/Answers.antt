use Rattle.std.proofs.Common.{refl}
use Rattle.closure.specs.Limits.{most_terms}
use Rattle.closure.proofs.Theory.Clashing.{below_use, clash_end, clash_hit, parts_more}
use Rattle.closure.proofs.Tests.clash.Goals as goal

pub bounds-terms-self : goal.bounds-terms-self
bounds-terms-self c = below_use most_terms _ _ _ _ c.requires.0.lefts c.loop-i-test.true refl

pub bounds-terms-self-in-loop-i : goal.bounds-terms-self-in-loop-i
bounds-terms-self-in-loop-i c = below_use most_terms _ _ _ _ c.requires.0.rights c.loop-i-test.true refl

pub returns-then-a-b : goal.returns-then-a-b
returns-then-a-b c = clash_hit _ _ _ _ _ _ _ c.loop-i-test.true refl refl c.if-a-b.true

pub loop-i-preserved : goal.loop-i-preserved
loop-i-preserved c = parts_more _ _ _ 0 _ _ _ c.loop-i.invariant refl refl c.if-a-b.false

pub returns : goal.returns
returns c = clash_end _ _ _ _ _ c.loop-i.invariant c.loop-i-test.false
