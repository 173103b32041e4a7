use Rattle.std.proofs.Common.{arith, ap, subst}
use Rattle.closure.specs.Arrays.{Propagated}
use Rattle.closure.specs.declared.Terms.{Terms}
use Rattle.closure.specs.Structs.{with_classes}
use Rattle.closure.proofs.Theory.Entering.{readable, readable_at}
use Rattle.closure.proofs.Theory.Propagation.{underway_same, resume_ready, underway_union, less_union, underway_end}
use Rattle.closure.proofs.Terms.propagate.Goals as goal

pub signature_at-c-requires : goal.signature_at-c-requires
signature_at-c-requires c = let f = c.loop-i.invariant.0.joined.formed in readable_at _ (readable _ f f.more (omega arith)) c.loop-i-test.true

pub enter-o-requires : goal.enter-o-requires
enter-o-requires c = let u = c.loop-i.invariant.0 in (
  readable _ u.joined.formed u.least u.most,
  let h = c.loop-i-test.true in let w = u.joined.formed.within in omega arith,
  u.chains,
)

pub loop-i-preserved-then-a-b : goal.loop-i-preserved-then-a-b
loop-i-preserved-then-a-b c = (
  underway_same _ _ _ _ _ _ _ _ _ _ c.loop-i.invariant.0 c.loop-i-test.true _ _ c.signature_at-c.ensures _ _ c.enter-o.ensures c.if-a-b.true,
  c.loop-i.invariant.1,
)

pub resume-next-requires : goal.resume-next-requires
resume-next-requires c = resume_ready _ _ _ _ _ _ _ _ _ _ c.loop-i.invariant.0 c.loop-i-test.true _ _ c.signature_at-c.ensures _ _ c.enter-o.ensures
    c.if-a-b.false _ c.max.ensures

pub loop-i-smaller : goal.loop-i-smaller
loop-i-smaller c = less_union _ _ _ _ _ _ _ _ _ _ c.loop-i.invariant.0 c.loop-i-test.true _ _ c.signature_at-c.ensures _ _ c.enter-o.ensures
    c.if-a-b.false _ _ c.unite.ensures

pub loop-i-preserved : goal.loop-i-preserved
loop-i-preserved c = (
  rw c.resume-next.ensures.1 (underway_union _ _ _ _ _ _ _ _ _ _ c.loop-i.invariant.0 c.loop-i-test.true _ _ c.signature_at-c.ensures _ _
      c.enter-o.ensures c.if-a-b.false _ _ _ _ c.unite.ensures c.max.ensures c.resume-next.ensures.0),
  ap (λ t. with_classes t c.unite.new.representative) c.loop-i.invariant.1,
)

pub returns-clause-classes : goal.returns-clause-classes
returns-clause-classes c = let b = c.args.self.now.representative in let r = c.loop-i.self.representative in
    subst (λ (t : Terms). Propagated b t.function t.first t.second t.registers t.count r c.loop-i.index.head c.loop-i.index.link) c.loop-i.invariant.1
    (underway_end _ _ _ _ _ _ _ _ _ _ c.loop-i.invariant.0 c.loop-i-test.false)
