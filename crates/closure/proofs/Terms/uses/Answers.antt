use Rattle.std.proofs.Common.{refl}
use Rattle.closure.proofs.Theory.Uses.{no_use_end, use_first, use_second}
use Rattle.closure.proofs.Terms.uses.Goals as goal
use Rattle.closure.proofs.Terms.uses.Goals.{then-self-a-via-then-self-a, then-self-a-via-else-self-a+then-self-b}

pub returns-then-self-a : goal.returns-then-self-a
returns-then-self-a c = elim c.then-self-a.branch [
  | then-self-a-via-then-self-a w ↦ use_first _ _ (record { below = c.loop-i-test.true; first_is = refl; second_is = refl }) w.if-self-a.true
  | then-self-a-via-else-self-a+then-self-b w ↦ use_second _ _ (record { below = c.loop-i-test.true; first_is = refl; second_is = refl }) w.if-self-b.true
]

pub returns : goal.returns
returns c = no_use_end _ _ _ _ _ c.requires _ c.loop-i.invariant c.loop-i-test.false
