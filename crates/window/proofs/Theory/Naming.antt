-- What follows from the definitions of specs/Naming.antt.
use mathlib.Core.Path.{◌≡◌, refl, subst}
use mathlib.Core.Logic.{◌↔◌, inl, inr, ⊎_elim}
use mathlib.Core.Bool.{cond}
use mathlib.Core.List.{List}
use Prim.Native.Nat.{ℕ, zero, suc, ◌+◌, ◌^◌, ◌≤◌, ◌<◌}
use native.Mathlib.Omega.{arith}
use native.Mathlib.Numerals.{add-one}
use lib.Dec.{eqb, T}
use lib.Bits.{bit_or}
use lib.ListN.{get_or}
use borrow.Author.Tests.{eqb-true, eqb-false}
use Rattle.base.proofs.Theory.Choice.{by_test}
use Rattle.base.specs.Masks.{has}
use Rattle.base.specs.LeastAndSize.{least_in}
use Rattle.window.specs.Naming.{naming_below, naming_registers}
use Rattle.window.proofs.Theory.Bits.{none_in, or_is, single_is, or_small, pow_small, none_small}

module _ (ρ : ℕ) (class : List ℕ) where
  -- ---- the loop over the registers

  pub names_none : 0 ≡ naming_below ρ class 0
  unfolding naming_below
  names_none = refl

  pub names_more : (r m least one : ℕ) → m ≡ naming_below ρ class r → least ≡ least_in ρ (get_or class r 0) → one ≡ cond (eqb least r) (2 ^ r) 0
      → bit_or m one ≡ naming_below ρ class (r + 1)
  unfolding naming_below
  names_more r m least one e f g = rw (g, f, e, add-one r) refl

  pub names_all : (r m : ℕ) → r ≤ ρ → ρ ≤ r → m ≡ naming_below ρ class r → m ≡ naming_registers ρ class
  unfolding naming_registers
  names_all r m h g e = subst (λ k. m ≡ naming_below ρ class k) (omega arith) e

  -- ---- which registers are in it

  below_is : (k a : ℕ) → T (has (naming_below ρ class k) a) ↔ ((a < k) × (least_in ρ (get_or class a 0) ≡ a))
  unfolding naming_below
  below_is zero a = ((λ t. absurd (none_in a t)), (λ (h, _). absurd (omega arith)))
  below_is (suc k) a = by_test (eqb (least_in ρ (get_or class k 0)) k)
      (λ t. rw t (
        (λ u. ⊎_elim (λ v. let (h, e) = (below_is k a).0 v in (omega arith, e))
            (λ v. let same : a ≡ k = (single_is k a).0 v in (omega arith, rw same (eqb-true (least_in ρ (get_or class k 0)) k t)))
            ((or_is (naming_below ρ class k) (2 ^ k) a).0 u)),
        (λ (h, e). (or_is (naming_below ρ class k) (2 ^ k) a).1 (by_test (eqb a k)
            (λ d. inr ((single_is k a).1 (eqb-true a k d)))
            (λ d. let n = eqb-false a k d in inl ((below_is k a).1 (omega arith, e))))),
      ))
      (λ t. rw t (
        (λ u. ⊎_elim (λ v. let (h, e) = (below_is k a).0 v in (omega arith, e)) (λ v. absurd (none_in a v)) ((or_is (naming_below ρ class k) 0 a).0 u)),
        (λ (h, e). (or_is (naming_below ρ class k) 0 a).1 (inl (by_test (eqb a k)
            (λ d. absurd (eqb-false (least_in ρ (get_or class k 0)) k t (subst (λ j. least_in ρ (get_or class j 0) ≡ j) (eqb-true a k d) e)))
            (λ d. let n = eqb-false a k d in (below_is k a).1 (omega arith, e))))),
      ))

  -- a register below ρ that is the lowest of its class
  pub names_is : (a : ℕ) → T (has (naming_registers ρ class) a) ↔ ((a < ρ) × (least_in ρ (get_or class a 0) ≡ a))
  unfolding naming_registers
  names_is a = below_is ρ a

  below_small : (k : ℕ) → k ≤ ρ → naming_below ρ class k < 2 ^ ρ
  unfolding naming_below
  below_small zero h = none_small ρ
  below_small (suc k) h = or_small ρ (naming_below ρ class k) _ (below_small k (omega arith))
      (by_test (eqb (least_in ρ (get_or class k 0)) k) (λ t. rw t (pow_small ρ k (omega arith))) (λ t. rw t (none_small ρ)))

  pub names_small : naming_registers ρ class < 2 ^ ρ
  unfolding naming_registers
  names_small = below_small ρ (omega arith)
