-- A class with one register.
use mathlib.Core.Path.{◌≡◌, refl, sym, ◌∙◌, subst}
use mathlib.Core.Logic.{◌⊎◌, inl, inr, ◌≢◌, ⊎_elim}
use Prim.Native.Nat.{ℕ, zero, suc, ◌+◌, ◌≤◌, ◌<◌}
use native.Mathlib.Omega.{arith}
use native.Mathlib.Nat.{eq-or-lt_of_le}
use lib.Dec.{eqb, ltb, T, eqb→eq}
use borrow.Author.Tests.{eqb-true, eqb-false, ltb-true, ltb-false}
use Rattle.base.proofs.Theory.Choice.{by_test}
use Rattle.semantics.proofs.Theory.Booleans.{or_not}
use Rattle.base.specs.Masks.{bit, has}
use Rattle.base.specs.LeastAndSize.{size_from, size_of}

-- how many registers of k from i are in the mask: none, if none of them is; and at least the number of those that are known to be
none_from : (m i k : ℕ) → ((j : ℕ) → i ≤ j → j < i + k → ¬ T (has m j)) → size_from i k m ≡ 0
unfolding size_from
none_from m i zero n = refl
none_from m i (suc k) n =
    let z : bit m i ≡ 0 = (let d = n i (omega arith) (omega arith) in
    by_test (has m i) (λ t. absurd (d (subst T (sym t) tt))) (λ t. let e = eqb-false (bit m i) 1 t in omega arith)) in
    let r = none_from m (suc i) k (λ j a b. n j (omega arith) (omega arith)) in
    omega arith

one_from : (m i k x : ℕ) → i ≤ x → x < i + k → T (has m x) → ((j : ℕ) → i ≤ j → j < i + k → T (has m j) → j ≡ x) → size_from i k m ≡ 1
unfolding size_from
one_from m i zero x a b t n = absurd (omega arith)
one_from m i (suc k) x a b t n = ⊎_elim
    (λ e. let u : bit m i ≡ 1 = eqb→eq (bit m i) 1 (subst (λ y. T (has m y)) (sym e) t) in
    let r = none_from m (suc i) k (λ j p q h. let d = n j (omega arith) (omega arith) h in omega arith) in
    omega arith)
    (λ l. let z : bit m i ≡ 0 = (by_test (has m i) (λ h. let d = n i (omega arith) (omega arith) (subst T (sym h) tt) in absurd (omega arith))
    (λ h. let e = eqb-false (bit m i) 1 h in omega arith)) in
    let r = one_from m (suc i) k x l (omega arith) t (λ j p q h. n j (omega arith) (omega arith) h) in
    omega arith)
    (eq-or-lt_of_le a)

some_from : (m i k x : ℕ) → i ≤ x → x < i + k → T (has m x) → 1 ≤ size_from i k m
unfolding size_from
some_from m i zero x a b t = absurd (omega arith)
some_from m i (suc k) x a b t = ⊎_elim
    (λ e. let u : bit m i ≡ 1 = eqb→eq (bit m i) 1 (subst (λ y. T (has m y)) (sym e) t) in omega arith)
    (λ l. let r = some_from m (suc i) k x l (omega arith) t in omega arith)
    (eq-or-lt_of_le a)

two_from : (m i k x y : ℕ) → i ≤ x → x < y → y < i + k → T (has m x) → T (has m y) → 2 ≤ size_from i k m
unfolding size_from
two_from m i zero x y a b c t u = absurd (omega arith)
two_from m i (suc k) x y a b c t u = ⊎_elim
    (λ e. let o : bit m i ≡ 1 = eqb→eq (bit m i) 1 (subst (λ y. T (has m y)) (sym e) t) in let r = some_from m (suc i) k y (omega arith) (omega arith) u in
    omega arith)
    (λ l. let r = two_from m (suc i) k x y l b (omega arith) t u in omega arith)
    (eq-or-lt_of_le a)

less_or : (a b : ℕ) → (a < b) ⊎ (b ≤ a)
less_or a b = by_test (ltb a b) (λ t. inl (ltb-true a b t)) (λ t. inr (ltb-false a b t))

module _ (ρ m x : ℕ) (xb : x < ρ) (t : T (has m x)) where
  -- a class of size one has no other register
  pub alone : size_of ρ m ≡ 1 → (j : ℕ) → j < ρ → T (has m j) → j ≡ x
  unfolding size_of
  alone e j jb u = by_test (eqb j x) (λ h. eqb-true j x h) (λ h. let d = eqb-false j x h in absurd (⊎_elim
      (λ l. let r = two_from m 0 ρ j x (omega arith) l (omega arith) u t in omega arith)
      (λ l. let r = two_from m 0 ρ x j (omega arith) (omega arith) (omega arith) t u in omega arith)
      (less_or j x)))

  below : (k : ℕ) → k ≤ ρ → ((j : ℕ) × (j < ρ) × (j ≢ x) × T (has m j)) ⊎ ((j : ℕ) → j < k → T (has m j) → j ≡ x)
  below zero b = inr (λ j l. absurd (omega arith))
  below (suc k) b = go (below k (omega arith))
    where
      last : (j : ℕ) → j < suc k → (j < k) ⊎ (j ≡ k)
      last j l = by_test (eqb j k) (λ e. inr (eqb-true j k e)) (λ e. let d = eqb-false j k e in inl (omega arith))

      go : ((j : ℕ) × (j < ρ) × (j ≢ x) × T (has m j)) ⊎ ((j : ℕ) → j < k → T (has m j) → j ≡ x)
          → ((j : ℕ) × (j < ρ) × (j ≢ x) × T (has m j)) ⊎ ((j : ℕ) → j < suc k → T (has m j) → j ≡ x)
      go (inl f) = inl f
      go (inr f) = by_test (eqb k x)
          (λ e. inr (λ j l u. ⊎_elim (λ p. f j p u) (λ p. p ∙ eqb-true k x e) (last j l)))
          (λ e. ⊎_elim (λ u. inl (k, omega arith, eqb-false k x e, u))
          (λ n. inr (λ j l u. ⊎_elim (λ p. f j p u) (λ p. absurd (n (subst (λ i. T (has m i)) p u))) (last j l))) (or_not (has m k)))

  -- a class of another size has one
  pub other : size_of ρ m ≢ 1 → (j : ℕ) × (j < ρ) × (j ≢ x) × T (has m j)
  unfolding size_of
  other n = ⊎_elim (λ f. f) (λ f. absurd (n (one_from m 0 ρ x (omega arith) (omega arith) t (λ j a b u. f j (omega arith) u)))) (below ρ (omega arith))
