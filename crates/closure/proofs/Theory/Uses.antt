-- The search for an argument of a class, and a union of a class that is no argument.
use mathlib.Core.Path.{◌≡◌, sym, ◌∙◌, ap, subst}
use mathlib.Core.Logic.{inl, inr, ◌≢◌}
use mathlib.Core.Bool.{Bool, true, false}
use mathlib.Core.List.{List}
use Prim.Native.Nat.{ℕ, ◌+◌, ◌%◌, ◌≤◌, ◌<◌, min, max}
use native.Mathlib.Omega.{arith}
use lib.Dec.{eqb}
use lib.ListN.{get_or}
use borrow.Author.Tests.{eqb-true, eqb-false}
use Rattle.base.proofs.Theory.Choice.{by_test}
use Rattle.closure.specs.Limits.{signature_chains, most_terms}
use Rattle.closure.specs.Numbering.{Closed}
use Rattle.closure.specs.Merging.{relabel_of}
use Rattle.closure.proofs.Theory.Index.{holds_most}
use Rattle.closure.specs.Index.{CompleteIndex}
use Rattle.closure.specs.Arrays.{entry_at, Below, Formed, signature_at, IndexedTerms, Lowest, UsedAsArgument, used, unused, Merged}
use Rattle.closure.proofs.Theory.Propagation.{United, united_merged, relabel_other}

pub lowest : {representative function first second : List ℕ} {registers n : ℕ} → Formed representative function first second registers n
    → Lowest representative first second n
unfolding Below
lowest f = record {
  within = f.within;
  firsts = λ i h. (f.first_before i h, f.lowest _ (f.firsts i h));
  seconds = λ i h. (f.second_before i h, f.lowest _ (f.seconds i h));
}

-- ---- the loop of `used`
-- none of the first i terms has an argument of the class d
pub record NoUse (representative first second : List ℕ) (n d i : ℕ) : Type 0 where
  pub none : (k : ℕ) → k < i → k < n → (get_or representative (get_or first k 0) 0 ≢ d) × (get_or representative (get_or second k 0) 0 ≢ d)

module _ (representative first second : List ℕ) (n d : ℕ) (w : Lowest representative first second n) where
  pub no_use_start : (i : ℕ) → i ≡ d → NoUse representative first second n d i
  no_use_start i e = record { none = λ k h l. let (p, q) = w.firsts k l in let (r, s) = w.seconds k l in ((λ z. omega arith), (λ z. omega arith)) }

  pub no_use_end : (i : ℕ) → NoUse representative first second n d i → n ≤ i → UsedAsArgument representative first second n d false
  no_use_end i u h = unused (λ k l. u.none k (omega arith) l)

-- in a turn: the term i and its two arguments
pub record TermAt (first second : List ℕ) (n i a b : ℕ) : Type 0 where
  pub below : i < n
  pub first_is : a ≡ get_or first i 0
  pub second_is : b ≡ get_or second i 0

pub use_below : {representative first second : List ℕ} {n : ℕ} → Lowest representative first second n → {i a b : ℕ} → TermAt first second n i a b
    → (a < most_terms) × (b < most_terms)
use_below w {i} t = let (p, q) = w.firsts i t.below in let (r, s) = w.seconds i t.below in let l = w.within in
    (omega (arith, t.first_is), omega (arith, t.second_is))

module _ (representative : List ℕ) (d : ℕ) {first second : List ℕ} {n i a b : ℕ} (t : TermAt first second n i a b) where
  pub use_first : get_or representative a 0 ≡ d → UsedAsArgument representative first second n d true
  use_first e = used _ t.below (inl (ap (λ v. get_or representative v 0) (sym t.first_is) ∙ e))

  pub use_second : get_or representative b 0 ≡ d → UsedAsArgument representative first second n d true
  use_second e = used _ t.below (inr (ap (λ v. get_or representative v 0) (sym t.second_is) ∙ e))

  pub no_use_more : NoUse representative first second n d i → get_or representative a 0 ≢ d → get_or representative b 0 ≢ d
      → NoUse representative first second n d (i + 1)
  no_use_more u x y = record {
    none = λ k l m. by_test (eqb k i)
        (λ here. let e = eqb-true k i here in (
          (λ z. x (ap (λ v. get_or representative v 0) (t.first_is ∙ ap (λ k. get_or first k 0) (sym e)) ∙ z)),
          (λ z. y (ap (λ v. get_or representative v 0) (t.second_is ∙ ap (λ k. get_or second k 0) (sym e)) ∙ z)),
        ))
        (λ away. let c : k ≢ i = eqb-false k i away in u.none k (omega arith) m);
  }

true_false : true ≡ false → ⊥
true_false e = let z : ◌≡◌ {A = ℕ} 0 1 = cc in omega arith

-- ---- a union that changes no signature
module _ (function first second representative head link : List ℕ) (registers n x y : ℕ) (f : Formed representative function first second registers n)
    (p : x < n) (q : y < n)
    (st : Closed (entry_at function) (entry_at first) (entry_at second) registers n (entry_at representative))
    (index : IndexedTerms representative function first second registers n head link) (next : List ℕ) (m : United n x y representative next) where
  module _ (none : (k : ℕ) → k < n
      → (get_or representative (get_or first k 0) 0 ≢ max (get_or representative x 0) (get_or representative y 0))
      × (get_or representative (get_or second k 0) 0 ≢ max (get_or representative x 0) (get_or representative y 0))) where
    first_same : (k : ℕ) → k < n → get_or next (get_or first k 0) 0 ≡ get_or representative (get_or first k 0) 0
    unfolding Below
    first_same k h = m.at_each (get_or first k 0) (f.firsts k h)
        ∙ relabel_other (max (get_or representative x 0) (get_or representative y 0)) (min (get_or representative x 0) (get_or representative y 0)) _
        (none k h).0

    second_same : (k : ℕ) → k < n → get_or next (get_or second k 0) 0 ≡ get_or representative (get_or second k 0) 0
    unfolding Below
    second_same k h = m.at_each (get_or second k 0) (f.seconds k h)
        ∙ relabel_other (max (get_or representative x 0) (get_or representative y 0)) (min (get_or representative x 0) (get_or representative y 0)) _
        (none k h).1

    same : (k : ℕ) → k < n → signature_at next function first second k ≡ signature_at representative function first second k
    unfolding signature_at
    same k h = rw (first_same k h, second_same k h)

    still_complete : CompleteIndex (signature_at next function first second) registers n head link
    still_complete = record {
      has = λ k l h. let (o, b, u, v) = index.complete.has k l h in (o, b, rw (same k h) u, same o (omega arith) ∙ v ∙ sym (same k h));
      only = λ b o k. let l = holds_most registers link (get_or head b 0) o index.chains.links f.some k in let g = index.chains.heads b in
          ap (λ s. s % signature_chains) (same o (omega arith)) ∙ index.complete.only b o k;
    }

    still_closed : Closed (entry_at function) (entry_at first) (entry_at second) registers n (entry_at next)
    unfolding Closed
    still_closed i j l h r k e u v =
        m.at_each i h ∙ ap (relabel_of (max (get_or representative x 0) (get_or representative y 0))
        (min (get_or representative x 0) (get_or representative y 0)))
        (st i j l h r k e (sym (first_same i h) ∙ u ∙ first_same j k) (sym (second_same i h) ∙ v ∙ second_same j k)) ∙ sym (m.at_each j k)

  pub merged_unused : (d : ℕ) (b : Bool) → d ≡ max (get_or representative x 0) (get_or representative y 0) → UsedAsArgument representative first second n d b
      → b ≡ false → Merged representative function first second registers n x y next head link
  merged_unused d b e (used k h u) z = absurd (true_false z)
  merged_unused d b e (unused none) z =
      let none' = subst (λ d. (k : ℕ) → k < n → (get_or representative (get_or first k 0) 0 ≢ d) × (get_or representative (get_or second k 0) 0 ≢ d)) e none in
      united_merged function first second registers n representative next head link x y f p q m (still_closed none')
      (record { chains = index.chains; complete = still_complete none' })
