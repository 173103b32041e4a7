-- Laws of the first of each kind in a list, and of the place of an element.
use mathlib.Core.Path.{◌≡◌, refl, sym, ◌∙◌, subst}
use mathlib.Core.Logic.{inl, inr, ◌⊎◌}
use mathlib.Core.Bool.{Bool, false}
use mathlib.Core.List.Memᴰ
use mathlib.Core.List.{List, [], ◌∷◌, ◌++◌, append-nil, append_assoc}
use Prim.Native.Nat.{ℕ, suc, ◌+◌, ◌≤◌, ◌<◌}
use native.Mathlib.Omega.{arith}
use lib.Dec.{T}
use lib.ListN.{length}
use Rattle.base.proofs.Theory.Choice.{by_test}
use Rattle.semantics.specs.Terms.{◌∈◌}
use Rattle.semantics.proofs.Theory.Booleans.{or_e, or_l, or_r, of_true, of_false, is_true, is_false}
use Rattle.semantics.specs.Lists.{any}
use Rattle.semantics.proofs.Theory.Lists.{any_e, any_i, end_split, any_left, any_right}
use Rattle.semantics.specs.Firsts.{firsts_after, first_place}

module _ {A : Type 0} where
  -- No element is the same as one before it.
  abbrev pub NoRepeats : (A → A → Bool) → List A → Type 0
  NoRepeats same l = (pre post : List A) (x : A) → l ≡ pre ++ x ∷ post → ¬ T (any (same x) pre)

  pub place_below : (p : A → Bool) (k : ℕ) (l : List A) → 0 < k → first_place p k l < k + length l
  unfolding first_place
  place_below p k [] h = omega arith
  place_below p k (x ∷ xs) h = by_test (p x)
      (λ e. rw e (omega arith))
      (λ e. rw e (let b = place_below p (suc k) xs (omega arith) in omega arith))

module _ {A : Type 0} where
  module _ (same : A → A → Bool) where
    pub firsts_in : (kept l : List A) {x : A} → x ∈ firsts_after same kept l → (x ∈ kept) ⊎ (x ∈ l)
    unfolding firsts_after
    firsts_in kept [] m = inl m
    firsts_in kept (y ∷ l) {x} m = by_test (any (same y) kept)
        (λ e. elim (firsts_in kept l {x = x} (rw e at m)) [ inl i ↦ inl i | inr i ↦ inr (Memᴰ.tail i) ])
        (λ e. elim (firsts_in (kept ++ y ∷ []) l {x = x} (rw e at m)) [
          | inl i ↦ elim (Memᴰ.append_cases kept i) [
            | inl j ↦ inl j
            | inr j ↦ inr (elim (Memᴰ.cases_cons j) [ inl q ↦ Memᴰ.head q | inr o ↦ absurd (Memᴰ.not-nil o) ])
          ]
          | inr i ↦ inr (Memᴰ.tail i)
        ])

module _ {A : Type 0} where
  -- ── the place of an element ──
  pub place_first : (p : A → Bool) (k : ℕ) (pre post : List A) (x : A) → ¬ T (any p pre) → T (p x) → first_place p k (pre ++ x ∷ post) ≡ k + length pre
  unfolding first_place
  place_first p k [] post x n t = rw (is_true (p x) t) (omega arith)
  place_first p k (y ∷ pre) post x n t =
      rw (is_false (p y) (λ h. n (or_l (p y) (any p pre) h)))
      (place_first p (suc k) pre post x (λ h. n (or_r (p y) (any p pre) h)) t ∙ omega arith)

  pub place_in : (p : A → Bool) (k : ℕ) (l m : List A) → T (any p l) → (k ≤ first_place p k (l ++ m)) × (first_place p k (l ++ m) < k + length l)
  unfolding first_place
  place_in p k [] m t = absurd t
  place_in p k (x ∷ xs) m t = by_test (p x)
      (λ e. rw e (omega arith, omega arith))
      (λ e. rw e (let (a, b) = place_in p (suc k) xs m
      (elim (or_e (p x) (any p xs) t) [ inl h ↦ absurd (of_false e h) | inr h ↦ h ]) in (omega arith, omega arith)))

  -- two that are found at one place are both passed by one element
  pub place_both : (p q : A → Bool) (k : ℕ) (l : List A) → T (any p l) → T (any q l) → first_place p k l ≡ first_place q k l → (x : A) × T (p x) × T (q x)
  unfolding first_place
  place_both p q k [] s t e = absurd s
  place_both p q k (x ∷ xs) s t e = by_test (p x)
      (λ a. by_test (q x)
      (λ b. (x, of_true a, of_true b))
      (λ b. absurd (later q (rest q b t) (rw (a, b) at e))))
      (λ a. by_test (q x)
      (λ b. absurd (later p (rest p a s) (sym (rw (a, b) at e))))
      (λ b. place_both p q (suc k) xs (rest p a s) (rest q b t) (rw (a, b) at e)))
    where
      rest : (p : A → Bool) → p x ≡ false → T (any p (x ∷ xs)) → T (any p xs)
      rest p e t = elim (or_e (p x) (any p xs) t) [ inl h ↦ absurd (of_false e h) | inr h ↦ h ]

      later : (p : A → Bool) → T (any p xs) → k ≡ first_place p (suc k) xs → ⊥
      later p t e = let (a, b) = rw (append-nil xs) at (place_in p (suc k) xs [] t) in omega arith

  -- ── the first of each kind ──
  module _ (same : A → A → Bool) where
    pub firsts_append : (kept l m : List A) → firsts_after same kept (l ++ m) ≡ firsts_after same (firsts_after same kept l) m
    unfolding firsts_after
    firsts_append kept [] m = refl
    firsts_append kept (x ∷ l) m = by_test (any (same x) kept) (λ e. rw e (firsts_append kept l m)) (λ e. rw e (firsts_append (kept ++ x ∷ []) l m))

    pub firsts_seen : (kept l : List A) (x : A) → T (any (same x) kept) → firsts_after same kept (x ∷ l) ≡ firsts_after same kept l
    unfolding firsts_after
    firsts_seen kept l x t = rw (is_true (any (same x) kept) t)

    pub firsts_new : (kept l : List A) (x : A) → ¬ T (any (same x) kept) → firsts_after same kept (x ∷ l) ≡ firsts_after same (kept ++ x ∷ []) l
    unfolding firsts_after
    firsts_new kept l x n = rw (is_false (any (same x) kept) n)

    -- what is kept stays in front
    pub firsts_extends : (kept l : List A) → (rest : List A) × (firsts_after same kept l ≡ kept ++ rest)
    unfolding firsts_after
    firsts_extends kept [] = ([], sym (append-nil kept))
    firsts_extends kept (x ∷ l) = by_test (any (same x) kept)
        (λ e. let (r, q) = firsts_extends kept l in (r, rw e q))
        (λ e. let (r, q) = firsts_extends (kept ++ x ∷ []) l in (x ∷ r, rw e (q ∙ append_assoc kept (x ∷ []) r)))

    pub no_repeats_more : (l : List A) (x : A) → NoRepeats same l → ¬ T (any (same x) l) → NoRepeats same (l ++ x ∷ [])
    no_repeats_more l x h n pre post y e = elim (end_split l pre post x y e) [
      | inl k ↦ h pre k.0 y k.1
      | inr k ↦ λ t. n (subst (λ z. T (any (same z) l)) k.1 (subst (λ m. T (any (same y) m)) k.0 t))
    ]

    pub firsts_distinct : (kept l : List A) → NoRepeats same kept → NoRepeats same (firsts_after same kept l)
    unfolding firsts_after
    firsts_distinct kept [] h = h
    firsts_distinct kept (x ∷ l) h = by_test (any (same x) kept)
        (λ e. subst (NoRepeats same) (sym (firsts_seen kept l x (of_true e))) (firsts_distinct kept l h))
        (λ e. subst (NoRepeats same) (sym (firsts_new kept l x (of_false e)))
        (firsts_distinct (kept ++ x ∷ []) l (no_repeats_more kept x h (of_false e))))

    pub none_repeats : NoRepeats same []
    none_repeats [] post x e = λ t. t
    none_repeats (y ∷ pre) post x e = λ t. let z : ◌≡◌ {A = ℕ} 0 1 = cc in omega arith

    module _ (reflexive : (x : A) → T (same x x)) where
      -- every element is the same as one that is kept
      pub firsts_all : (kept l : List A) {x : A} → x ∈ l → T (any (same x) (firsts_after same kept l))
      unfolding firsts_after
      firsts_all kept [] m = absurd (Memᴰ.not-nil m)
      firsts_all kept (y ∷ l) {x} m = by_test (any (same y) kept)
          (λ e. rw e (elim (Memᴰ.cases_cons m) [
            | inl q ↦ let (r, g) = firsts_extends kept l in subst (λ k. T (any (same x) k)) (sym g)
                (any_left (same x) kept r (subst (λ z. T (any (same z) kept)) (sym q) (of_true e)))
            | inr i ↦ firsts_all kept l i
          ]))
          (λ e. rw e (elim (Memᴰ.cases_cons m) [
            | inl q ↦ let (r, g) = firsts_extends (kept ++ y ∷ []) l in
                subst (λ k. T (any (same x) k)) (sym g)
                (any_left (same x) (kept ++ y ∷ []) r
                (any_right (same x) kept (y ∷ [])
                (any_i (same x) {l = y ∷ []} (Memᴰ.head refl) (subst (λ z. T (same x z)) q (reflexive x)))))
            | inr i ↦ firsts_all (kept ++ y ∷ []) l i
          ]))

      module _ (transitive : (x y z : A) → T (same x y) → T (same y z) → T (same x z)) where
        -- an element is the same as one of the list exactly if it is the same as one that is kept
        pub firsts_any_i : (l : List A) (x : A) → T (any (same x) l) → T (any (same x) (firsts_after same [] l))
        firsts_any_i l x t =
            let (y, m, s) = any_e (same x) l t in
            let (z, k, u) = any_e (same y) (firsts_after same [] l) (firsts_all [] l m) in
            any_i (same x) k (transitive x y z s u)

    pub firsts_any_e : (l : List A) (x : A) → T (any (same x) (firsts_after same [] l)) → T (any (same x) l)
    firsts_any_e l x t =
        let (y, m, s) = any_e (same x) (firsts_after same [] l) t in
        any_i (same x) {l = l} (elim (firsts_in same [] l m) [ inl k ↦ absurd (Memᴰ.not-nil k) | inr k ↦ k ]) s
