-- How many numbers two masks have that differ in one place, and how many a mask has below a number.
use mathlib.Core.Path.{◌≡◌, refl, sym, ap, ap₂, ◌∙◌, subst}
use mathlib.Core.Logic.{◌↔◌, ◌≢◌, ⊎_elim}
use Prim.Native.Nat.{ℕ, zero, suc, ◌+◌, ◌≤◌, ◌<◌}
use native.Mathlib.Omega.{arith}
use native.Mathlib.Nat.{eq-or-lt_of_le}
use lib.Dec.{T, eqb→eq}
use borrow.Author.Tests.{eqb-false, lt-ltb, le-ltb}
use Rattle.base.proofs.Theory.Choice.{by_test}
use Rattle.base.specs.Masks.{bit, has}
use Rattle.base.specs.LeastAndSize.{size_from, size_of}
use Rattle.window.specs.Counting.{count_at_start}
use Rattle.window.proofs.Theory.Bits.{same_bit, less_or}

is_one : (m i : ℕ) → T (has m i) → bit m i ≡ 1
is_one m i t = eqb→eq (bit m i) 1 t

is_zero : (m i : ℕ) → ¬ T (has m i) → bit m i ≡ 0
is_zero m i n = by_test (has m i) (λ t. absurd (n (subst T (sym t) tt))) (λ t. let d = eqb-false (bit m i) 1 t in omega arith)

-- ---- two masks

same_from : (i k m n : ℕ) → ((j : ℕ) → i ≤ j → j < i + k → T (has m j) ↔ T (has n j)) → size_from i k m ≡ size_from i k n
unfolding size_from
same_from i zero m n f = refl
same_from i (suc k) m n f =
    let b = same_bit m n i (f i (omega arith) (omega arith)) in
    let r = same_from (suc i) k m n (λ j p q. f j (omega arith) (omega arith)) in
    omega arith

more_from : (i k m n x : ℕ) → ((j : ℕ) → i ≤ j → j < i + k → j ≢ x → T (has m j) ↔ T (has n j)) → i ≤ x → x < i + k → ¬ T (has m x) → T (has n x)
    → size_from i k n ≡ suc (size_from i k m)
unfolding size_from
more_from i zero m n x f a b p q = absurd (omega arith)
more_from i (suc k) m n x f a b p q = ⊎_elim
    (λ e. let o = is_one n i (subst (λ y. T (has n y)) (sym e) q) in
    let z = is_zero m i (λ t. p (subst (λ y. T (has m y)) e t)) in
    let r = same_from (suc i) k m n (λ j c d. f j (omega arith) (omega arith) (λ h. let g : suc i ≤ x = subst (λ y. suc i ≤ y) h c in omega arith)) in
    omega arith)
    (λ l. let c = same_bit m n i (f i (omega arith) (omega arith) (λ h. omega arith)) in
    let r = more_from (suc i) k m n x (λ j c d g. f j (omega arith) (omega arith) g) l (omega arith) p q in
    omega arith)
    (eq-or-lt_of_le a)

most_from : (i k m : ℕ) → size_from i k m ≤ k
unfolding size_from
most_from i zero m = omega arith
most_from i (suc k) m = let r = most_from (suc i) k m in omega arith

module _ (ρ : ℕ) where
  -- masks of the same numbers have as many
  pub size_same : (m n : ℕ) → ((j : ℕ) → j < ρ → T (has m j) ↔ T (has n j)) → size_of ρ m ≡ size_of ρ n
  unfolding size_of
  size_same m n f = same_from 0 ρ m n (λ j p q. f j (omega arith))

  -- n has x besides what m has
  pub size_one_more : (m n x : ℕ) → ((j : ℕ) → j < ρ → j ≢ x → T (has m j) ↔ T (has n j)) → x < ρ → ¬ T (has m x) → T (has n x)
      → size_of ρ n ≡ suc (size_of ρ m)
  unfolding size_of
  size_one_more m n x f b p q = more_from 0 ρ m n x (λ j c d g. f j (omega arith) g) (omega arith) (omega arith) p q

  pub size_most : (m : ℕ) → size_of ρ m ≤ ρ
  unfolding size_of
  size_most m = most_from 0 ρ m

-- ---- one mask: how many numbers it has below k

last_from : (i k m : ℕ) → size_from i (suc k) m ≡ size_from i k m + bit m (i + k)
unfolding size_from
last_from i zero m = let e : i + 0 ≡ i = omega arith in rw e (omega arith)
last_from i (suc k) m = let r = last_from (suc i) k m in let e : i + suc k ≡ suc i + k = omega arith in rw e (omega arith)

size_next : (m k : ℕ) → size_of (suc k) m ≡ size_of k m + bit m k
unfolding size_of
size_next m k = last_from 0 k m ∙ ap (λ z. size_from 0 k m + bit m z) (omega arith)

size-from : (m k d : ℕ) → size_of k m ≤ size_of (k + d) m
size-from m k zero = let e : k + 0 ≡ k = omega arith in rw e (omega arith)
size-from m k (suc d) = let r = size-from m k d in let n = size_next m (k + d) in let e : k + suc d ≡ suc (k + d) = omega arith in rw e (omega arith)

-- a number of the mask has fewer below it than a greater number has
pub size_before : (m j k : ℕ) → j < k → T (has m j) → size_of j m < size_of k m
size_before m j k l t =
    let (d, e) : (d : ℕ) × (suc j + d ≡ k) = gap k l in
    let n = size_next m j in
    let o = is_one m j t in
    let r : size_of (suc j) m ≤ size_of k m = subst (λ z. size_of (suc j) m ≤ size_of z m) e (size-from m (suc j) d) in
    omega arith
  where
    gap : (k : ℕ) → j < k → (d : ℕ) × (suc j + d ≡ k)
    gap zero l = absurd (omega arith)
    gap (suc k) l = ⊎_elim (λ h. let (d, e) = gap k h in (suc d, omega arith)) (λ h. (0, omega arith)) (less_or j k)

-- a mask of the numbers below n
pub size_first : (m n k : ℕ) → ((j : ℕ) → j < k → T (has m j) ↔ (j < n)) → size_of k m ≡ count_at_start k n
unfolding size_of size_from count_at_start
size_first m n zero f = rw (le-ltb n 0 (omega arith))
size_first m n (suc k) f =
    let r = size_first m n k (λ j h. f j (omega arith)) in
    let e = size_next m k in
    ⊎_elim
    (λ l. let z = is_zero m k (λ t. let h = (f k (omega arith)).0 t in omega arith) in
    let q : count_at_start k n ≡ n = ⊎_elim (λ h. rw (lt-ltb n k h)) (λ h. let d : k ≡ n = omega arith in rw (le-ltb n k h) d) (less_or n k) in
    let t : n + 0 ≡ n = omega arith in
    rw (lt-ltb n (suc k) l) (e ∙ ap₂ ◌+◌ (r ∙ q) z ∙ t))
    (λ l. let o = is_one m k ((f k (omega arith)).1 (omega arith)) in
    let q : count_at_start k n ≡ k = rw (le-ltb n k (omega arith)) in
    let t : k + 1 ≡ suc k = omega arith in
    rw (le-ltb n (suc k) l) (e ∙ ap₂ ◌+◌ (r ∙ q) o ∙ t))
    (less_or n (suc k))

-- each number below the size is that of one of the mask's numbers
pub size_onto : (m K k : ℕ) → k < size_of K m → (r : ℕ) × (r < K) × T (has m r) × (size_of r m ≡ k)
unfolding size_of size_from
size_onto m zero k l = absurd (omega arith)
size_onto m (suc K) k l = ⊎_elim
    (λ h. let (r, b, t, e) = size_onto m K k h in (r, omega arith, t, e))
    (λ h. let n = size_next m K in by_test (has m K)
    (λ t. let o = is_one m K (subst T (sym t) tt) in (K, omega arith, subst T (sym t) tt, omega arith))
    (λ t. let d = eqb-false (bit m K) 1 t in absurd (omega arith)))
    (less_or k (size_of K m))
