-- A text that is refused meets demand 3 by its refusal.
use mathlib.Core.Path.{refl}
use mathlib.Core.List.{List}
use Prim.Native.Nat.{ℕ}
use Rattle.semantics.specs.Terms.{State}
use Rattle.refusals.specs.Order.{Refusal}
use Rattle.refusals.proofs.Theory.Accepted.{refused_once, never_both}
use Rattle.verdict_theory.specs.Verdict.{refused}
use Rattle.verdict_theory.specs.Demand3.{Demand3}

-- Whatever is taken to be possible: `Feasible` and `FeasibleInSomeModel` alike.
module _ {ℓ} (Possible : State → Type ℓ) (text table output : List ℕ) where
  -- A text that is refused.
  pub refused_way : (n q : ℕ) → Refusal text n q → Demand3 Possible text table output (refused n q) table output
  refused_way n q r = record {
    unread = λ k l s. let (i, j) = refused_once text r s in ((λ h. refused (i h) (j h)), refl, refl);
    verdict = λ m s. absurd (never_both text s r);
    zeroed = λ m s. absurd (never_both text s r);
  }
