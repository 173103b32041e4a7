use Rattle.std.proofs.Common.{arith, refl}
use Rattle.closure.proofs.Theory.Entering.{readable_at}
use Rattle.closure.proofs.Theory.Index.{finding_hit, finding_turn, link_less}
use Rattle.closure.proofs.Index.find.Goals as goal

pub signature_at-requires : goal.signature_at-requires
signature_at-requires c = readable_at _ c.requires.0 c.loop-i.invariant.0

pub returns-then-signature_at-c : goal.returns-then-signature_at-c
returns-then-signature_at-c c = finding_hit _ _ _ _ _ _ _ _ c.loop-i.invariant.1 c.loop-i.invariant.0 c.loop-i-test.true
    c.signature_at.ensures c.if-signature_at-c.true

pub loop-i-preserved : goal.loop-i-preserved
loop-i-preserved c = (
  let l = link_less _ _ _ _ c.requires.2 c.requires.0.some c.loop-i-test.true refl in let h = c.loop-i.invariant.0 in omega arith,
  finding_turn _ _ _ _ _ _ _ _ c.loop-i.invariant.1 c.loop-i-test.true c.signature_at.ensures c.if-signature_at-c.false refl,
)
