-- What follows from the definitions of specs/Lists.antt.
use mathlib.Core.Path.{◌≡◌, refl, sym, ◌∙◌, ap, subst}
use mathlib.Core.Logic.{◌⊎◌, inl, inr}
use mathlib.Core.Bool.{Bool, true, false}
use mathlib.Core.List.Memᴰ
use mathlib.Core.List.{List, [], ◌∷◌, ◌++◌, reverse_aux}
use mathlib.Core.Option.{Option, none, some}
use Prim.Native.Nat.{ℕ, zero, suc, ◌<◌}
use native.Mathlib.Omega.{arith}
use lib.Dec.{T}
use lib.ListN.{length, take, drop}
use Rattle.semantics.specs.Terms.{◌∈◌}
use Rattle.semantics.proofs.Theory.Booleans.{or_not, and_l, and_r, and_i, or_e, or_l, or_r}
use Rattle.semantics.specs.Lists.{any, all, first_passing}

module _ {A : Type 0} where
  pub any_e : (p : A → Bool) (l : List A) → T (any p l) → (a : A) × (a ∈ l) × T (p a)
  any_e p [] t = absurd t
  any_e p (x ∷ xs) t = go (λ u. any_e p xs u) (or_e (p x) (any p xs) t)
    where
      go : (T (any p xs) → (a : A) × (a ∈ xs) × T (p a)) → T (p x) ⊎ T (any p xs) → (a : A) × (a ∈ x ∷ xs) × T (p a)
      go ih (inl u) = (x, Memᴰ.head refl, u)
      go ih (inr u) = let (a, m, v) = ih u in (a, Memᴰ.tail m, v)

  pub any_i : (p : A → Bool) {a : A} {l : List A} → a ∈ l → T (p a) → T (any p l)
  any_i p (Memᴰ.head {x} {xs} e) t = or_l (p x) (any p xs) (subst (λ x. T (p x)) e t)
  any_i p (Memᴰ.tail {x} {xs} m) t = or_r (p x) (any p xs) (any_i p m t)

  pub all_e : (p : A → Bool) {a : A} {l : List A} → T (all p l) → a ∈ l → T (p a)
  all_e p t (Memᴰ.head {x} {xs} e) = subst (λ x. T (p x)) (sym e) (and_l (p x) (all p xs) t)
  all_e p t (Memᴰ.tail {x} {xs} m) = all_e p (and_r (p x) (all p xs) t) m

  pub all_i : (p : A → Bool) (l : List A) → ((a : A) → a ∈ l → T (p a)) → T (all p l)
  all_i p [] h = tt
  all_i p (x ∷ xs) h = and_i (p x) (all p xs) (h x (Memᴰ.head refl)) (all_i p xs (λ a m. h a (Memᴰ.tail m)))

  pub all_n : (p : A → Bool) (l : List A) → ¬ T (all p l) → (a : A) × (a ∈ l) × ¬ T (p a)
  all_n p [] n = absurd (n tt)
  all_n p (x ∷ xs) n = go (λ k. all_n p xs k) (or_not (p x))
    where
      go : (¬ T (all p xs) → (a : A) × (a ∈ xs) × ¬ T (p a)) → T (p x) ⊎ ¬ T (p x) → (a : A) × (a ∈ x ∷ xs) × ¬ T (p a)
      go ih (inr k) = (x, Memᴰ.head refl, k)
      go ih (inl y) = let (a, m, k) = ih (λ t. n (and_i (p x) (all p xs) y t)) in (a, Memᴰ.tail m, k)

  -- what the first element that passes is, and that none passes where there is none
  pub data FirstFound (p : A → Bool) (l : List A) : Option A → Type 0 where
    at : {a : A} → a ∈ l → T (p a) → FirstFound p l (some a)
    nowhere : ((a : A) → a ∈ l → ¬ T (p a)) → FirstFound p l none

  pub first_is : (p : A → Bool) (l : List A) → FirstFound p l (first_passing p l)
  first_is p [] = nowhere (λ a m. absurd (Memᴰ.not-nil m))
  first_is p (x ∷ xs) = head (first_is p xs) (p x) refl
    where
      rest : {o : Option A} → p x ≡ false → FirstFound p xs o → FirstFound p (x ∷ xs) o
      rest e (at m t) = at (Memᴰ.tail m) t
      rest e (nowhere h) = nowhere (λ a m t. elim (Memᴰ.cases_cons m) [ inl q ↦ subst T (ap p q ∙ e) t | inr k ↦ h a k t ])

      head : FirstFound p xs (first_passing p xs) → (b : Bool) → p x ≡ b → FirstFound p (x ∷ xs) (elim b [ true ↦ some x | false ↦ first_passing p xs ])
      head ih true e = at (Memᴰ.head refl) (subst T (sym e) tt)
      head ih false e = rest e ih

  pub nil_cons : {x : A} {xs : List A} → [] ≡ x ∷ xs → ⊥
  nil_cons q = let z : ◌≡◌ {A = ℕ} 0 1 = cc in omega arith

  -- a list that ends in x, split at y: y is an earlier element, or it is x
  pub end_split : (l pre post : List A) (x y : A) → l ++ x ∷ [] ≡ pre ++ y ∷ post
      → ((rest : List A) × (l ≡ pre ++ y ∷ rest)) ⊎ ((pre ≡ l) × (y ≡ x))
  end_split [] [] post x y e = inr (refl, (cc))
  end_split [] (p ∷ []) post x y e = absurd (nil_cons {x = y} {xs = post} (cc))
  end_split [] (p ∷ q ∷ pre) post x y e = absurd (nil_cons {x = q} {xs = pre ++ y ∷ post} (cc))
  end_split (a ∷ l) [] post x y e = inl (l, (cc))
  end_split (a ∷ l) (p ∷ pre) post x y e = go (end_split l pre post x y (cc))
    where
      same : a ≡ p
      same = cc

      go : ((rest : List A) × (l ≡ pre ++ y ∷ rest)) ⊎ ((pre ≡ l) × (y ≡ x))
          → ((rest : List A) × (a ∷ l ≡ p ∷ pre ++ y ∷ rest)) ⊎ ((p ∷ pre ≡ a ∷ l) × (y ≡ x))
      go (inl (rest, q)) = inl (rest, λ i. same i ∷ q i)
      go (inr (q, r)) = inr ((λ i. sym same i ∷ q i), r)

  -- two splits of one list are at one place, or one is before the other
  pub two_splits : (b c l m : List A) (x y : A) → b ++ x ∷ l ≡ c ++ y ∷ m → ((b ≡ c) × (x ≡ y)) ⊎ ((x ∈ c) ⊎ (y ∈ b))
  two_splits [] [] l m x y e = inl (refl, (cc))
  two_splits [] (q ∷ c) l m x y e = let h : x ≡ q = cc in inr (inl (Memᴰ.head h))
  two_splits (p ∷ b) [] l m x y e = let h : y ≡ p = cc in inr (inr (Memᴰ.head h))
  two_splits (p ∷ b) (q ∷ c) l m x y e = go (two_splits b c l m x y (cc))
    where
      same : p ≡ q
      same = cc

      go : ((b ≡ c) × (x ≡ y)) ⊎ ((x ∈ c) ⊎ (y ∈ b)) → ((p ∷ b ≡ q ∷ c) × (x ≡ y)) ⊎ ((x ∈ q ∷ c) ⊎ (y ∈ p ∷ b))
      go (inl (d, f)) = inl ((λ i. same i ∷ d i), f)
      go (inr (inl k)) = inr (inl (Memᴰ.tail k))
      go (inr (inr k)) = inr (inr (Memᴰ.tail k))

  -- a list split at a place
  pub split_at : (l : List A) (i : ℕ) → i < length l → (pre : List A) × (x : A) × (post : List A) × (l ≡ pre ++ x ∷ post) × (length pre ≡ i)
  split_at [] i h = absurd (omega arith)
  split_at (x ∷ xs) zero h = ([], x, xs, refl, refl)
  split_at (x ∷ xs) (suc i) h =
      let (pre, y, post, e, n) = split_at xs i (omega arith) in
      (x ∷ pre, y, post, ap (λ l. x ∷ l) e, ap suc n)

  pub any_left : (p : A → Bool) (l m : List A) → T (any p l) → T (any p (l ++ m))
  any_left p l m t = let (a, i, y) = any_e p l t in any_i p (Memᴰ.append_left m i) y

  pub any_right : (p : A → Bool) (l m : List A) → T (any p m) → T (any p (l ++ m))
  any_right p l m t = let (a, i, y) = any_e p m t in any_i p (Memᴰ.append_right l i) y

-- ── a list turned round ──
pub in_reversed : {A : Type 0} (l r : List A) {t : A} → (t ∈ l) ⊎ (t ∈ r) → t ∈ reverse_aux l r
in_reversed [] r (inl m) = absurd (Memᴰ.not-nil m)
in_reversed [] r (inr m) = m
in_reversed (x ∷ l) r (inl m) = elim (Memᴰ.cases_cons m) [
  | inl e ↦ in_reversed l (x ∷ r) (inr (Memᴰ.head e))
  | inr k ↦ in_reversed l (x ∷ r) (inl k)
]
in_reversed (x ∷ l) r (inr m) = in_reversed l (x ∷ r) (inr (Memᴰ.tail m))

pub reversed_in : {A : Type 0} (l r : List A) {t : A} → t ∈ reverse_aux l r → (t ∈ l) ⊎ (t ∈ r)
reversed_in [] r m = inr m
reversed_in (x ∷ l) r m = elim (reversed_in l (x ∷ r) m) [
  | inl k ↦ inl (Memᴰ.tail k)
  | inr k ↦ elim (Memᴰ.cases_cons k) [ inl e ↦ inl (Memᴰ.head e) | inr j ↦ inr j ]
]

-- ── the front of a list ──
pub take_front : {A : Type 0} (l m : List A) → take (length l) (l ++ m) ≡ l
take_front [] m = refl
take_front (x ∷ l) m = ap (λ r. x ∷ r) (take_front l m)

pub drop_front : {A : Type 0} (l m : List A) → drop (length l) (l ++ m) ≡ m
drop_front [] m = refl
drop_front (x ∷ l) m = drop_front l m
