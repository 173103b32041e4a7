use Rattle.engine.specs.Structs.{counts_of}
use Rattle.engine.proofs.Theory.RunLaws.{malformed_at, ready, clash_ready, goes_on, stops, ends}
use Rattle.engine.proofs.Progress.perform.Goals as goal

pub returns-in_default-clause-ran : goal.returns-in_default-clause-ran
returns-in_default-clause-ran c = rw c.at.ensures (malformed_at _ _ _ c.requires.0 _ _ _ _ _ _ _ _ _ _
    (counts_of c.loop-k.terms.count c.loop-k.self.tests) _ c.loop-k-test.true
    c.loop-k.invariant.0 _ c.letter_at.ensures c.in_default.is)

pub step-requires : goal.step-requires
step-requires c = ready _ _ _ c.requires.0 _ _ _ _ _ _ _ _ _ _ (counts_of c.loop-k.terms.count c.loop-k.self.tests) _ c.loop-k-test.true c.loop-k.invariant.0 _
    c.letter_at.ensures _ c.in-Some.is

pub clash-requires : goal.clash-requires
clash-requires c = let (a, b, d, e, f) = clash_ready _ _ _ c.requires.0 _ _ _ _ _ _ _ _ _ _ (counts_of c.loop-k.terms.count c.loop-k.self.tests) _
    c.loop-k-test.true c.loop-k.invariant.0 _ c.letter_at.ensures _ c.in-Some.is _ _ _ _ _ _ _ _ _
    (counts_of c.step.new.terms.count c.step.new.self.tests) c.step.ensures.performed in
    (record { parted_few = a; few = b; lefts = d; rights = e }, f)

pub returns-then-clash-clause-ran : goal.returns-then-clash-clause-ran
returns-then-clash-clause-ran c = stops _ _ _ c.requires.0 _ _ _ _ _ _ _ _ _ _ (counts_of c.loop-k.terms.count c.loop-k.self.tests) _ c.loop-k-test.true
    c.loop-k.invariant.0 _ c.letter_at.ensures _ c.in-Some.is _ _ _ _ _ _ _ _ _ (counts_of c.step.new.terms.count c.step.new.self.tests)
    c.step.ensures.performed _ c.clash.ensures c.if-clash.true

pub loop-k-preserved : goal.loop-k-preserved
loop-k-preserved c = (
  rw c.step.ensures.registers (goes_on _ _ _ c.requires.0 _ _ _ _ _ _ _ _ _ _ (counts_of c.loop-k.terms.count c.loop-k.self.tests) _ c.loop-k-test.true
      c.loop-k.invariant.0 _ c.letter_at.ensures _ c.in-Some.is _ _ _ _ _ _ _ _ _ (counts_of c.step.new.terms.count c.step.new.self.tests)
      c.step.ensures.performed _ c.clash.ensures c.if-clash.false),
  rw c.step.ensures.registers c.loop-k.invariant.1,
)

pub returns-clause-ran : goal.returns-clause-ran
returns-clause-ran c = ends _ _ _ c.requires.0 _ _ _ _ _ _ _ _ _ _ (counts_of c.loop-k.terms.count c.loop-k.self.tests) _ c.loop-k-test.false
    c.loop-k.invariant.1
    c.loop-k.invariant.0
