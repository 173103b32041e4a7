-- Laws of the count of pairs: there is one count at most, and it passes n exactly if it is more than n.
use mathlib.Core.Path.{◌≡◌, sym, ap, ◌∙◌, subst}
use mathlib.Core.Logic.{◌⊎◌, inl, inr, ◌↔◌, ◌≢◌}
use Prim.Native.Nat.{ℕ, zero, suc, ◌-◌, ◌≤◌, ◌<◌}
use native.Mathlib.Omega.{arith}
use Rattle.macros.proofs.Theory.Numbers.{less_or, three}
use Rattle.verdict_theory.specs.Count.{First, Counted, Lists, Count, More}

-- ── m different numbers below k are no more than k ──
abbrev lower : (v x : ℕ) → (v < x) ⊎ (x ≤ v) → ℕ
lower v x (inl l) = x - 1
lower v x (inr l) = x

lower_below : (v x k : ℕ) (o : (v < x) ⊎ (x ≤ v)) → v < suc k → x < suc k → x ≢ v → lower v x o < k
lower_below v x k (inl l) p q n = omega arith
lower_below v x k (inr l) p q n = omega arith

lower_once : (v x y : ℕ) (o : (v < x) ⊎ (x ≤ v)) (u : (v < y) ⊎ (y ≤ v)) → x ≢ v → y ≢ v → lower v x o ≡ lower v y u → x ≡ y
lower_once v x y (inl l) (inl m) p q e = omega arith
lower_once v x y (inl l) (inr m) p q e = omega arith
lower_once v x y (inr l) (inl m) p q e = omega arith
lower_once v x y (inr l) (inr m) p q e = omega arith

pigeonhole : (k m : ℕ) (f : ℕ → ℕ) → ((i : ℕ) → i < m → f i < k) → ((i j : ℕ) → i < m → j < m → f i ≡ f j → i ≡ j) → m ≤ k
pigeonhole zero zero f h e = omega arith
pigeonhole zero (suc m) f h e = let z = h 0 (omega arith) in absurd (omega arith)
pigeonhole (suc k) zero f h e = omega arith
pigeonhole (suc k) (suc m) f h e =
    let z = pigeonhole k m (λ i. lower (f m) (f i) (less_or (f m) (f i)))
    (λ i l. lower_below (f m) (f i) k (less_or (f m) (f i)) (h m (omega arith)) (h i (omega arith)) (other i l))
    (λ i j l n g. e i j (omega arith) (omega arith) (lower_once (f m) (f i) (f j) (less_or (f m) (f i)) (less_or (f m) (f j)) (other i l) (other j n) g)) in
    omega arith
  where
    other : (i : ℕ) → i < m → f i ≢ f m
    other i l g = let z = e i m (omega arith) (omega arith) g in omega arith

module _ {ℓ} {P : Type 0} (Before : P → P → Type 0) (Leaves : P → Type 0) (Same : P → P → Type 0) (Event : P → Type ℓ)
    (before_not : (p : P) → ¬ Before p p) where
  pub lists_more : (f : ℕ → P) (k n : ℕ) → Lists Before Leaves Same Event f k → n < k → More Before Leaves Same Event n
  lists_more f k n x l = record {
    sample = f;
    counted = λ i m. x.counted i (omega arith);
    distinct = λ i j p q e. go i j (omega arith) (omega arith) (three i j) e;
  }
    where
      apart : (i j : ℕ) → i < j → j < k → f i ≢ f j
      apart i j p q e = before_not (f j) (subst (λ z. Before z (f j)) e (x.sorted i j p q))

      go : (i j : ℕ) → i < k → j < k → (i < j) ⊎ ((i ≡ j) ⊎ (j < i)) → f i ≡ f j → i ≡ j
      go i j p q (inl l) e = absurd (apart i j l q e)
      go i j p q (inr (inl l)) e = l
      go i j p q (inr (inr l)) e = absurd (apart j i l p (sym e))

  pub lists_not_more : (f : ℕ → P) (k n : ℕ) → Lists Before Leaves Same Event f k → k ≤ n → ¬ More Before Leaves Same Event n
  lists_not_more f k n x l y = let z : suc n ≤ k = pigeonhole k (suc n) place (λ i m. (placed i (less_or n i) (omega arith)).0) once in omega arith
    where
      found : (i : ℕ) → i ≤ n → (j : ℕ) × (j < k) × (f j ≡ y.sample i)
      found i m = x.every (y.sample i) (y.counted i m)

      seek : (i : ℕ) → (n < i) ⊎ (i ≤ n) → ℕ
      seek i (inl m) = 0
      seek i (inr m) = (found i m).0

      place : ℕ → ℕ
      place i = seek i (less_or n i)

      placed : (i : ℕ) (o : (n < i) ⊎ (i ≤ n)) → i ≤ n → (seek i o < k) × (f (seek i o) ≡ y.sample i)
      placed i (inl m) p = absurd (omega arith)
      placed i (inr m) p = ((found i m).1, (found i m).2)

      once : (i j : ℕ) → i < suc n → j < suc n → place i ≡ place j → i ≡ j
      once i j p q e =
          let u = (placed i (less_or n i) (omega arith)).1 in
          let v = (placed j (less_or n j) (omega arith)).1 in
          y.distinct i j (omega arith) (omega arith) (sym u ∙ ap f e ∙ v)

  -- there is one count
  pub one_count : (k l : ℕ) → Count Before Leaves Same Event k → Count Before Leaves Same Event l → k ≡ l
  one_count k l (f, x) (g, y) = go (three k l)
    where
      go : (k < l) ⊎ ((k ≡ l) ⊎ (l < k)) → k ≡ l
      go (inl u) = absurd (lists_not_more f k k x (omega arith) (lists_more g l k y u))
      go (inr (inl u)) = u
      go (inr (inr u)) = absurd (lists_not_more g l l y (omega arith) (lists_more f k l x u))

  -- where it is known, it is more than n or not
  pub more_is : (k n : ℕ) → Count Before Leaves Same Event k → More Before Leaves Same Event n ↔ (n < k)
  more_is k n (f, x) = (λ y. elim (less_or n k) [ inl l ↦ l | inr l ↦ absurd (lists_not_more f k n x l y) ], λ l. lists_more f k n x l)

-- The same pairs are counted, and listed alike, if the same executions leave the same pairs, and the events of one kind are events of the other, or come after
-- one.
module _ {ℓ κ} {P : Type 0} (Before : P → P → Type 0) (before_join : (p q r : P) → Before p q → Before q r → Before p r)
    (Leaves Leaves' : P → Type 0) (Same Same' : P → P → Type 0) (Event : P → Type ℓ) (Event' : P → Type κ)
    (there : (p : P) → Leaves p → Leaves' p) (back : (p : P) → Leaves' p → Leaves p)
    (same_there : (p q : P) → Leaves p → Leaves q → Same p q → Same' p q) (same_back : (p q : P) → Leaves p → Leaves q → Same' p q → Same p q)
    (event : (p : P) → Event p → Event' p) (sooner : (p : P) → Event' p → (q : P) × Event q × ((q ≡ p) ⊎ Before q p)) where
  same_first : (p : P) → First Before Leaves Same Event p → First Before Leaves' Same' Event' p
  same_first p x = record { leaves = there p x.leaves; least = λ q l s. x.least q (back q l) (same_back q p (back q l) x.leaves s) }

  same_first' : (p : P) → First Before Leaves' Same' Event' p → First Before Leaves Same Event p
  same_first' p x = record { leaves = back p x.leaves; least = λ q l s. x.least q (there q l) (same_there q p l (back p x.leaves) s) }

  same_counted : (p : P) → Counted Before Leaves Same Event p → Counted Before Leaves' Same' Event' p
  same_counted p x = record { is_first = same_first p x.is_first; early = λ q e. go q (sooner q e) }
    where
      go : (q : P) → (r : P) × Event r × ((r ≡ q) ⊎ Before r q) → Before p q
      go q (r, d, inl e) = subst (Before p) e (x.early r d)
      go q (r, d, inr b) = before_join p r q (x.early r d) b

  same_counted' : (p : P) → Counted Before Leaves' Same' Event' p → Counted Before Leaves Same Event p
  same_counted' p x = record { is_first = same_first' p x.is_first; early = λ q e. x.early q (event q e) }

  pub same_lists : (f : ℕ → P) (k : ℕ) → Lists Before Leaves Same Event f k → Lists Before Leaves' Same' Event' f k
  same_lists f k x = record { counted = λ i l. same_counted (f i) (x.counted i l); every = λ p c. x.every p (same_counted' p c); sorted = x.sorted }

  pub same_more : (n : ℕ) → More Before Leaves Same Event n → More Before Leaves' Same' Event' n
  same_more n x = record { sample = x.sample; counted = λ i l. same_counted (x.sample i) (x.counted i l); distinct = x.distinct }
