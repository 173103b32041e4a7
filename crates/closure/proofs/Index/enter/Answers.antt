use Rattle.std.proofs.Common.{arith, refl}
use native.Mathlib.Nat.{mod-lt}
use Rattle.closure.proofs.Theory.Index.{entered_known, entered_new}
use Rattle.closure.proofs.Index.enter.Goals as goal

pub returns-then-terms-found : goal.returns-then-terms-found
returns-then-terms-found c = entered_known _ _ _ _ _ _ c.requires.2 c.requires.0.some c.requires.0.more c.requires.1 _ _ refl
    c.find-found.ensures c.if-terms-found.true

pub returns : goal.returns
returns c = entered_new _ _ _ _ _ _ c.requires.2 c.requires.0.some c.requires.0.more c.requires.1 _ refl (mod-lt _ (omega arith)) _ _ refl
    c.find-found.ensures c.if-terms-found.false
