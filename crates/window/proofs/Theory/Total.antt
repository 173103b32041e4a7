-- How many pairs of registers are in one class.
use mathlib.Core.Path.{◌≡◌, sym, subst}
use mathlib.Core.Logic.{⊎_elim}
use mathlib.Core.List.{List}
use Prim.Native.Nat.{ℕ, zero, suc, ◌+◌, ◌*◌, ◌≤◌, ◌<◌}
use native.Mathlib.Omega.{arith}
use native.Mathlib.Nat.{eq-or-lt_of_le, suc-mul}
use lib.Dec.{eqb, T, eqb→eq}
use lib.ListN.{get_or}
use borrow.Author.Tests.{eqb-true, eqb-false}
use Rattle.base.proofs.Theory.Choice.{by_test}
use Rattle.base.specs.Masks.{bit, has}
use Rattle.base.specs.LeastAndSize.{size_from, size_of}
use Rattle.window.proofs.Theory.Sizes.{size_most}

bit_mono : (m n i : ℕ) → (T (has m i) → T (has n i)) → bit m i ≤ bit n i
bit_mono m n i f = by_test (has m i)
    (λ t. let e = eqb→eq (bit n i) 1 (f (subst T (sym t) tt)) in omega arith)
    (λ t. let d = eqb-false (bit m i) 1 t in omega arith)

size_mono : (i k m n : ℕ) → ((j : ℕ) → i ≤ j → j < i + k → T (has m j) → T (has n j)) → size_from i k m ≤ size_from i k n
unfolding size_from
size_mono i zero m n f = omega arith
size_mono i (suc k) m n f =
    let b = bit_mono m n i (f i (omega arith) (omega arith)) in
    let r = size_mono (suc i) k m n (λ j p q. f j (omega arith) (omega arith)) in
    omega arith

size_more : (i k m n x : ℕ) → ((j : ℕ) → i ≤ j → j < i + k → T (has m j) → T (has n j)) → i ≤ x → x < i + k → ¬ T (has m x) → T (has n x)
    → suc (size_from i k m) ≤ size_from i k n
unfolding size_from
size_more i zero m n x f a b p q = absurd (omega arith)
size_more i (suc k) m n x f a b p q = ⊎_elim
    (λ e. let o : bit n i ≡ 1 = eqb→eq (bit n i) 1 (subst (λ y. T (has n y)) (sym e) q) in
    let z : bit m i ≡ 0 = (by_test (has m i) (λ t. absurd (p (subst (λ y. T (has m y)) e (subst T (sym t) tt))))
    (λ t. let d = eqb-false (bit m i) 1 t in omega arith)) in
    let r = size_mono (suc i) k m n (λ j p q. f j (omega arith) (omega arith)) in
    omega arith)
    (λ l. let c = bit_mono m n i (f i (omega arith) (omega arith)) in
    let r = size_more (suc i) k m n x (λ j p q. f j (omega arith) (omega arith)) l (omega arith) p q in
    omega arith)
    (eq-or-lt_of_le a)

sum_to : ℕ → (ℕ → ℕ) → ℕ
sum_to zero f = 0
sum_to (suc k) f = f k + sum_to k f

sum_mono : (k : ℕ) (f g : ℕ → ℕ) → ((r : ℕ) → r < k → f r ≤ g r) → sum_to k f ≤ sum_to k g
unfolding sum_to
sum_mono zero f g h = omega arith
sum_mono (suc k) f g h = let a = h k (omega arith) in let b = sum_mono k f g (λ r l. h r (omega arith)) in omega arith

sum_more : (k : ℕ) (f g : ℕ → ℕ) (x : ℕ) → ((r : ℕ) → r < k → f r ≤ g r) → x < k → suc (f x) ≤ g x → suc (sum_to k f) ≤ sum_to k g
unfolding sum_to
sum_more zero f g x h l m = absurd (omega arith)
sum_more (suc k) f g x h l m = by_test (eqb x k)
    (λ t. let e = subst (λ y. suc (f y) ≤ g y) (eqb-true x k t) m in let b = sum_mono k f g (λ r l. h r (omega arith)) in omega arith)
    (λ t. let d = eqb-false x k t in let a = h k (omega arith) in let b = sum_more k f g x (λ r l. h r (omega arith)) (omega arith) m in omega arith)

sum_most : (ρ k : ℕ) (f : ℕ → ℕ) → ((r : ℕ) → r < k → f r ≤ ρ) → sum_to k f ≤ k * ρ
unfolding sum_to
sum_most ρ zero f h = omega arith
sum_most ρ (suc k) f h = let a = h k (omega arith) in let b = sum_most ρ k f (λ r l. h r (omega arith)) in omega (arith, a, b, suc-mul k ρ)

module _ (ρ : ℕ) where
  pub total : List ℕ → ℕ
  unfolding sum_to
  total l = sum_to ρ (λ r. size_of ρ (get_or l r 0))

  pub total_most : (l : List ℕ) → total l ≤ ρ * ρ
  unfolding total size_of
  total_most l = sum_most ρ ρ (λ r. size_of ρ (get_or l r 0)) (λ r h. size_most ρ (get_or l r 0))

  pub total_more : (l m : List ℕ) (x y : ℕ) → ((r s : ℕ) → r < ρ → s < ρ → T (has (get_or l r 0) s) → T (has (get_or m r 0) s)) → x < ρ → y < ρ
      → ¬ T (has (get_or l x 0) y) → T (has (get_or m x 0) y) → suc (total l) ≤ total m
  unfolding total size_of
  total_more l m x y f xb yb p q = sum_more ρ (λ r. size_of ρ (get_or l r 0)) (λ r. size_of ρ (get_or m r 0)) x
      (λ r h. size_mono 0 ρ (get_or l r 0) (get_or m r 0) (λ j a b. f r j h (omega arith))) xb
      (size_more 0 ρ (get_or l x 0) (get_or m x 0) y (λ j a b. f x j xb (omega arith)) (omega arith) (omega arith) p q)
