-- What follows from the definitions of specs/Values.antt.
use mathlib.Core.Path.{◌≡◌, refl, sym, ◌∙◌, ap, subst}
use mathlib.Core.Logic.{◌≢◌}
use mathlib.Core.List.{List}
use Prim.Native.Nat.{ℕ, zero, suc, ◌+◌, ◌≤◌, ◌<◌}
use native.Mathlib.Omega.{arith}
use native.Mathlib.Numerals.{add-one}
use lib.Dec.{eqb}
use lib.ListN.{get_or}
use borrow.Author.Tests.{eqb-true, eqb-false, eq-eqb, ne_eqb}
use Rattle.base.proofs.Theory.Choice.{by_test}
use Rattle.closure.specs.Limits.{most_terms}
use Rattle.base.proofs.Theory.Written.{WrittenUpTo}
use Rattle.model_writer.specs.Values.{classes_below, value_at, new_class, chosen, Valued}

pub classes_more : (l : List ℕ) (i : ℕ) → classes_below l (i + 1) ≡ classes_below l i + new_class l i
unfolding classes_below new_class
classes_more l i = rw add-one (by_test (eqb (get_or l i 0) i) (λ t. rw t (omega arith)) (λ t. rw t (omega arith)))

pub classes_le : (l : List ℕ) (i : ℕ) → classes_below l i ≤ i
unfolding classes_below
classes_le l zero = omega arith
classes_le l (suc i) = by_test (eqb (get_or l i 0) i) (λ t. rw t (omega (arith, classes_le l i))) (λ t. rw t (omega (arith, classes_le l i)))

-- ---- as code chooses
module _ (representative values : List ℕ) (i next name : ℕ) (e : name ≡ get_or representative i 0) where
  pub chosen_hit : name ≡ i → next ≡ chosen representative values i next
  unfolding chosen
  chosen_hit h = rw (eq-eqb (get_or representative i 0) i (sym e ∙ h))

  pub chosen_miss : name ≢ i → get_or values name 0 ≡ chosen representative values i next
  unfolding chosen
  chosen_miss h = rw (ne_eqb (get_or representative i 0) i (λ z. h (e ∙ z))) (ap (λ k. get_or values k 0) e)

module _ (representative : List ℕ) (i name : ℕ) (e : name ≡ get_or representative i 0) where
  pub class_hit : name ≡ i → 1 ≡ new_class representative i
  unfolding new_class
  class_hit h = rw (eq-eqb (get_or representative i 0) i (sym e ∙ h))

  pub class_miss : name ≢ i → 0 ≡ new_class representative i
  unfolding new_class
  class_miss h = rw (ne_eqb (get_or representative i 0) i (λ z. h (e ∙ z)))

pub new_class_le : (l : List ℕ) (i : ℕ) → new_class l i ≤ 1
unfolding new_class
new_class_le l i = by_test (eqb (get_or l i 0) i) (λ t. rw t (omega arith)) (λ t. rw t (omega arith))

pub classes_none : (l : List ℕ) → 1 ≡ suc (classes_below l 0)
unfolding classes_below
classes_none l = refl

module _ (representative : List ℕ) (n : ℕ) (lowest : (i : ℕ) → i < n → get_or representative i 0 ≤ i)
    (own : (i : ℕ) → i < n → get_or representative (get_or representative i 0) 0 ≡ get_or representative i 0) where
  -- one turn of the loop
  pub chosen_is : (values : List ℕ) (i next : ℕ) → i < n → WrittenUpTo (value_at representative) 0 most_terms i values
      → next ≡ suc (classes_below representative i) → chosen representative values i next ≡ value_at representative i
  unfolding chosen value_at
  chosen_is values i next h w e = by_test (eqb (get_or representative i 0) i)
      (λ t. rw (t, e) (ap (λ j. suc (classes_below representative j)) (sym (eqb-true (get_or representative i 0) i t))))
      (λ t. let d : get_or representative i 0 ≢ i = eqb-false (get_or representative i 0) i t in
      let l = lowest i h in
      rw t (w.at (get_or representative i 0) (omega arith) ∙ ap (λ j. suc (classes_below representative j)) (own i h)))

pub next_is : (representative : List ℕ) (i next v : ℕ) → next ≡ suc (classes_below representative i) → v ≡ new_class representative i
    → next + v ≡ suc (classes_below representative (i + 1))
next_is representative i next v e g = let h = classes_more representative i in omega arith

pub valued_end : (representative : List ℕ) (n i : ℕ) (values : List ℕ) (next : ℕ) → i ≤ n → n ≤ i → WrittenUpTo (value_at representative) 0 most_terms i values
    → next ≡ suc (classes_below representative i) → Valued representative n values next
valued_end representative n i values next h g w e = record {
  at_each = λ k b. w.at k (omega arith);
  long = w.long;
  count = let q : i ≡ n = omega arith in subst (λ j. next ≡ suc (classes_below representative j)) q e;
}
