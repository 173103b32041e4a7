-- What follows from the definitions of specs/Decide.antt.
use mathlib.Core.Path.{◌≡◌, refl, sym, ◌∙◌, ap, subst}
use mathlib.Core.Logic.{◌⊎◌, inl, inr, ◌≢◌}
use mathlib.Core.Bool.{Bool, true, false, not, ◌&&◌}
use mathlib.Core.List.Memᴰ
use mathlib.Core.List.{List, [], ◌∷◌}
use mathlib.Core.Option.{Option, none, some}
use Prim.Native.Nat.{ℕ, zero, suc, ◌+◌, ◌≤◌}
use native.Mathlib.Omega.{arith}
use lib.Dec.{T, eqb, eqb→eq, eqb_refl, T_not, not_T}
use lib.ListN.{length}
use Rattle.semantics.specs.Terms.{◌∈◌, Term, con, app}
use Rattle.semantics.proofs.Theory.Booleans.{or_not, and_l, and_r, and_i}
use Rattle.semantics.specs.Lists.{first_passing}
use Rattle.semantics.proofs.Theory.Lists.{FirstFound, at, nowhere, first_is}
use Rattle.semantics.specs.TermEquality.{eqt}
use Rattle.semantics.proofs.Theory.TermEquality.{eqt→eq, eqt_refl, eq→eqt}
use Rattle.semantics.specs.Closure.{Closure, reflexive, symmetric, transitive, congruence}
use Rattle.semantics.specs.Decide.{redirect, find, beside, all_pairs, agree, congruent, due, merge, tested, saturate, merges, alike}

redirect_hit : (m : Term × Term) → redirect m m.0 ≡ m.1
redirect_hit m = go (eqt m.0 m.0) (eqt_refl m.0)
  where
    go : (b : Bool) → T b → elim b [ true ↦ m.1 | false ↦ m.0 ] ≡ m.1
    go true t = refl
    go false t = absurd t

-- what a redirection does: the name a becomes b, another stays
data Redirected (m : Term × Term) (t : Term) : Term → Type 0 where
  moved : t ≡ m.0 → Redirected m t m.1
  stays : t ≢ m.0 → Redirected m t t

redirected : (m : Term × Term) (t : Term) → Redirected m t (redirect m t)
redirected m t = go (eqt t m.0) refl
  where
    go : (b : Bool) → eqt t m.0 ≡ b → Redirected m t (elim b [ true ↦ m.1 | false ↦ t ])
    go true e = moved (eqt→eq t m.0 (subst T (sym e) tt))
    go false e = stays (λ p. subst T e (eq→eqt t m.0 p))

-- ── a list less one element ──
pub less : {a : Term} {l : List Term} → a ∈ l → (k : List Term) × (length l ≡ suc (length k)) × ((t : Term) → t ∈ l → t ≢ a → t ∈ k)
less {a} (Memᴰ.head {x} {xs} e) = (xs, refl, λ t m n. elim (Memᴰ.cases_cons m) [ inl q ↦ absurd (n (q ∙ sym e)) | inr k ↦ k ])
less {a} (Memᴰ.tail {x} {xs} m) = go (less m)
  where
    go : ((k : List Term) × (length xs ≡ suc (length k)) × ((t : Term) → t ∈ xs → t ≢ a → t ∈ k))
        → (k : List Term) × (suc (length xs) ≡ suc (length k)) × ((t : Term) → t ∈ x ∷ xs → t ≢ a → t ∈ k)
    go r = (x ∷ r.0, ap suc r.1, λ t j n. elim (Memᴰ.cases_cons j) [ inl q ↦ Memᴰ.head q | inr k ↦ Memᴰ.tail (r.2 t k n) ])

beside_i : {a b t : Term} {ys : List Term} (l : List (Term × Term)) → a ≡ t → b ∈ ys → (a, b) ∈ beside t ys l
beside_i l e (Memᴰ.head p) = Memᴰ.head (λ i. (e i, p i))
beside_i l e (Memᴰ.tail m) = Memᴰ.tail (beside_i l e m)

beside_skip : (a : Term) (ys : List Term) {l : List (Term × Term)} {p : Term × Term} → p ∈ l → p ∈ beside a ys l
beside_skip a [] m = m
beside_skip a (y ∷ ys) m = Memᴰ.tail (beside_skip a ys m)

beside_e : (a : Term) (ys : List Term) {l : List (Term × Term)} {p : Term × Term} → p ∈ beside a ys l → ((p.0 ≡ a) × (p.1 ∈ ys)) ⊎ (p ∈ l)
beside_e a [] m = inr m
beside_e a (y ∷ ys) {l} {p} m = go (λ k. beside_e a ys k) (Memᴰ.cases_cons m)
  where
    go : (p ∈ beside a ys l → ((p.0 ≡ a) × (p.1 ∈ ys)) ⊎ (p ∈ l)) → (p ≡ (a, y)) ⊎ (p ∈ beside a ys l) → ((p.0 ≡ a) × (p.1 ∈ y ∷ ys)) ⊎ (p ∈ l)
    go ih (inl e) = inl (ap (λ q. q.0) e, Memᴰ.head (ap (λ q. q.1) e))
    go ih (inr k) = elim (ih k) [ inl h ↦ inl (h.0, Memᴰ.tail h.1) | inr h ↦ inr h ]

pub pairs_i : {a b : Term} {xs : List Term} (ys : List Term) → a ∈ xs → b ∈ ys → (a, b) ∈ all_pairs xs ys
pairs_i ys (Memᴰ.head {xs} e) n = beside_i (all_pairs xs ys) e n
pairs_i ys (Memᴰ.tail {x} m) n = beside_skip x ys (pairs_i ys m n)

pub pairs_e : (xs ys : List Term) {p : Term × Term} → p ∈ all_pairs xs ys → (p.0 ∈ xs) × (p.1 ∈ ys)
pairs_e [] ys m = absurd (Memᴰ.not-nil m)
pairs_e (x ∷ xs) ys {p} m = go (λ k. pairs_e xs ys k) (beside_e x ys m)
  where
    go : (p ∈ all_pairs xs ys → (p.0 ∈ xs) × (p.1 ∈ ys)) → ((p.0 ≡ x) × (p.1 ∈ ys)) ⊎ (p ∈ all_pairs xs ys) → (p.0 ∈ x ∷ xs) × (p.1 ∈ ys)
    go ih (inl h) = (Memᴰ.head h.0, h.1)
    go ih (inr k) = (Memᴰ.tail (ih k).0, (ih k).1)

-- a merge joins what it is given, and parts nothing
merge_joins : (ms : List (Term × Term)) (p : Term × Term) → find (merge ms p) p.0 ≡ find (merge ms p) p.1
merge_joins ms p = redirect_hit m ∙ sym (go (redirected m (find ms p.1)))
  where
    m : Term × Term
    m = (find ms p.0, find ms p.1)

    go : {u : Term} → Redirected m (find ms p.1) u → u ≡ find ms p.1
    go (moved e) = refl
    go (stays n) = refl

tested_joins : {s t : Term} {E : List (Term × Term)} → (s, t) ∈ E → find (tested E) s ≡ find (tested E) t
tested_joins (Memᴰ.head {x = e} {xs = es} q) =
    ap (λ (p : Term × Term). find (merge (tested es) e) p.0) q ∙ merge_joins (tested es) e ∙ sym
    (ap (λ (p : Term × Term). find (merge (tested es) e) p.1) q)
tested_joins (Memᴰ.tail {x = e} {xs = es} m) = ap (redirect (find (tested es) e.0, find (tested es) e.1)) (tested_joins m)

congruent_e : (ms : List (Term × Term)) (R : Term → Term → Type 0) (s t : Term)
    → ((f : ℕ) (a b c d : Term) → find ms a ≡ find ms c → find ms b ≡ find ms d → R (app f a b) (app f c d)) → T (congruent ms s t) → R s t
congruent_e ms R (con m) t h y = absurd y
congruent_e ms R (app f a b) (con n) h y = absurd y
congruent_e ms R (app f a b) (app g c d) h y =
    let u = and_r (eqb f g) (agree ms a c && agree ms b d) y in
    subst (λ k. R (app f a b) (app k c d)) (eqb→eq f g (and_l (eqb f g) (agree ms a c && agree ms b d) y))
    (h f a b c d (eqt→eq (find ms a) (find ms c) (and_l (agree ms a c) (agree ms b d) u))
    (eqt→eq (find ms b) (find ms d) (and_r (agree ms a c) (agree ms b d) u)))

congruent_i : (ms : List (Term × Term)) (f : ℕ) (a b c d : Term) → find ms a ≡ find ms c → find ms b ≡ find ms d
    → T (congruent ms (app f a b) (app f c d))
congruent_i ms f a b c d p q =
    and_i (eqb f f) (agree ms a c && agree ms b d) (eqb_refl f)
    (and_i (agree ms a c) (agree ms b d) (eq→eqt (find ms a) (find ms c) p) (eq→eqt (find ms b) (find ms d) q))

module _ (U : List Term) (E : List (Term × Term)) where
  -- merges that the closure justifies
  Sound : List (Term × Term) → Type 0
  Sound ms = (t : Term) → Closure U E t t → Closure U E t (find ms t)

  merge_sound : (ms : List (Term × Term)) (p : Term × Term) → Sound ms → Closure U E p.0 p.1 → Sound (merge ms p)
  unfolding Sound
  merge_sound ms p h c t r = go (redirected (find ms p.0, find ms p.1) (find ms t))
    where
      go : {u : Term} → Redirected (find ms p.0, find ms p.1) (find ms t) u → Closure U E t u
      go (moved e) =
          transitive (subst (Closure U E t) e (h t r))
          (transitive (symmetric (h p.0 (transitive c (symmetric c)))) (transitive c (h p.1 (transitive (symmetric c) c))))
      go (stays n) = h t r

  sound_e : (ms : List (Term × Term)) → Sound ms → {s t : Term} → Closure U E s s → Closure U E t t → find ms s ≡ find ms t → Closure U E s t
  unfolding Sound
  sound_e ms h {s} {t} p q e = transitive (subst (Closure U E s) e (h s p)) (symmetric (h t q))

  tested_sound : (D : List (Term × Term)) → ((s t : Term) → (s, t) ∈ D → (s, t) ∈ E) → Sound (tested D)
  unfolding Sound
  tested_sound [] h = λ t r. r
  tested_sound (e ∷ es) h =
      merge_sound (tested es) e (tested_sound es (λ s t m. h s t (Memᴰ.tail m))) (Closure.test (h e.0 e.1 (Memᴰ.head refl)))

  module _ (sub : (f : ℕ) (a b : Term) → app f a b ∈ U → (a ∈ U) × (b ∈ U)) where
    due_sound : (ms : List (Term × Term)) → Sound ms → (p : Term × Term) → p ∈ all_pairs U U → T (due ms p) → Closure U E p.0 p.1
    due_sound ms h p m y =
        let (k, l) = pairs_e U U m in
        congruent_e ms (λ s t. s ∈ U → t ∈ U → Closure U E s t) p.0 p.1
        (λ f a b c d e g i j. congruence i j
        (sound_e ms h (reflexive (sub f a b i).0) (reflexive (sub f c d j).0) e)
        (sound_e ms h (reflexive (sub f a b i).1) (reflexive (sub f c d j).1) g))
        (and_l (congruent ms p.0 p.1) (not (agree ms p.0 p.1)) y) k l

    saturate_sound : (n : ℕ) (ms : List (Term × Term)) → Sound ms → Sound (saturate U n ms)
    saturate_sound zero ms h = h
    saturate_sound (suc n) ms h = go (λ ks. saturate_sound n ks) (first_is (due ms) (all_pairs U U))
      where
        go : ((ks : List (Term × Term)) → Sound ks → Sound (saturate U n ks)) → {o : Option (Term × Term)} → FirstFound (due ms) (all_pairs U U) o
            → Sound (elim o [ none ↦ ms | some p ↦ saturate U n (merge ms p) ])
        go ih (at {a = p} m y) = ih (merge ms p) (merge_sound ms p h (due_sound ms h p m y))
        go ih (nowhere q) = h

  -- nothing is left to merge
  Stable : List (Term × Term) → Type 0
  Stable ms = (p : Term × Term) → p ∈ all_pairs U U → ¬ T (due ms p)

  saturate_stable : (n : ℕ) (ms : List (Term × Term)) (l : List Term) → length l ≤ n → ((t : Term) → t ∈ U → find ms t ∈ l) → Stable (saturate U n ms)
  unfolding Stable
  saturate_stable zero ms [] b h = λ p m y. Memᴰ.not-nil (h p.0 (pairs_e U U m).0)
  saturate_stable zero ms (x ∷ l) b h = λ p m y. omega arith
  saturate_stable (suc n) ms l b h = go (λ ks. saturate_stable n ks) (first_is (due ms) (all_pairs U U))
    where
      kept : (p : Term × Term) → p ∈ all_pairs U U → T (due ms p) → (k : List Term) → ((t : Term) → t ∈ l → t ≢ find ms p.0 → t ∈ k) → (t : Term)
          → t ∈ U
          → {u : Term} → Redirected (find ms p.0, find ms p.1) (find ms t) u → u ∈ k
      kept p m y k w t i (moved e) =
          w (find ms p.1) (h p.1 (pairs_e U U m).1)
          (λ q. T_not (agree ms p.0 p.1) (and_r (congruent ms p.0 p.1) (not (agree ms p.0 p.1)) y)
          (eq→eqt (find ms p.0) (find ms p.1) (sym q)))
      kept p m y k w t i (stays n) = w (find ms t) (h t i) n

      go : ((ks : List (Term × Term)) (k : List Term) → length k ≤ n → ((t : Term) → t ∈ U → find ks t ∈ k) → Stable (saturate U n ks))
          → {o : Option (Term × Term)} → FirstFound (due ms) (all_pairs U U) o
          → Stable (elim o [ none ↦ ms | some p ↦ saturate U n (merge ms p) ])
      go ih (nowhere q) = q
      go ih (at {a = p} m y) =
          let (k, e, w) = less (h p.0 (pairs_e U U m).0) in
          ih (merge ms p) k (omega arith) (λ t i. kept p m y k w t i (redirected (find ms p.0, find ms p.1) (find ms t)))

  -- stable merges that join the tests join all that the closure equates
  stable_e : (ms : List (Term × Term)) → Stable ms → ((s t : Term) → (s, t) ∈ E → find ms s ≡ find ms t) → {s t : Term} → Closure U E s t
      → find ms s ≡ find ms t
  unfolding Stable
  stable_e ms h k (reflexive m) = refl
  stable_e ms h k (Closure.test m) = k _ _ m
  stable_e ms h k (symmetric c) = sym (stable_e ms h k c)
  stable_e ms h k (transitive c d) = stable_e ms h k c ∙ stable_e ms h k d
  stable_e ms h k (congruence {f} {a} {b} {c} {d} i j p q) =
      elim (or_not (agree ms (app f a b) (app f c d))) [
        | inl y ↦ eqt→eq (find ms (app f a b)) (find ms (app f c d)) y
        | inr n ↦ absurd (h (app f a b, app f c d) (pairs_i U i j)
            (and_i (congruent ms (app f a b) (app f c d)) (not (agree ms (app f a b) (app f c d)))
            (congruent_i ms f a b c d (stable_e ms h k p) (stable_e ms h k q)) (not_T (agree ms (app f a b) (app f c d)) n)))
      ]

  -- later merges part nothing
  saturate_keeps : (n : ℕ) (ms : List (Term × Term)) (s t : Term) → find ms s ≡ find ms t → find (saturate U n ms) s ≡ find (saturate U n ms) t
  saturate_keeps zero ms s t e = e
  saturate_keeps (suc n) ms s t e = go (λ ks. saturate_keeps n ks s t) (first_passing (due ms) (all_pairs U U))
    where
      go : ((ks : List (Term × Term)) → find ks s ≡ find ks t → find (saturate U n ks) s ≡ find (saturate U n ks) t) → (o : Option (Term × Term))
          → find (elim o [ none ↦ ms | some p ↦ saturate U n (merge ms p) ]) s ≡ find (elim o [ none ↦ ms | some p ↦ saturate U n (merge ms p) ]) t
      go ih none = e
      go ih (some p) = ih (merge ms p) (ap (redirect (find ms p.0, find ms p.1)) e)

-- the names that the tests leave to the terms l
named : List (Term × Term) → List Term → List Term
named [] l = l
named (e ∷ es) l = find (tested es) e.1 ∷ named es l

named_length : (D : List (Term × Term)) (l : List Term) → length (named D l) ≤ length l + length D
unfolding named
named_length [] l = omega arith
named_length (e ∷ es) l = let h = named_length es l in omega arith

named_i : (D : List (Term × Term)) (l : List Term) (t : Term) → t ∈ l → find (tested D) t ∈ named D l
unfolding named
named_i [] l t m = m
named_i (e ∷ es) l t m = go (named_i es l t m) (redirected (find (tested es) e.0, find (tested es) e.1) (find (tested es) t))
  where
    go : find (tested es) t ∈ named es l → {u : Term} → Redirected (find (tested es) e.0, find (tested es) e.1) (find (tested es) t) u
        → u ∈ find (tested es) e.1 ∷ named es l
    go ih (moved q) = Memᴰ.head refl
    go ih (stays n) = Memᴰ.tail ih

-- ── the test says what the closure says ──
module _ (U : List Term) (E : List (Term × Term)) where
  pub alike_i : {s t : Term} → Closure U E s t → T (alike U E s t)
  alike_i {s} {t} c =
      eq→eqt (find (merges U E) s) (find (merges U E) t)
      (stable_e U E (merges U E)
      (saturate_stable U E (length U + length E) (tested E) (named E U) (named_length E U) (named_i E U))
      (λ s t m. saturate_keeps U E (length U + length E) (tested E) s t (tested_joins m)) c)

  pub alike_e : ((f : ℕ) (a b : Term) → app f a b ∈ U → (a ∈ U) × (b ∈ U)) → {s t : Term} → s ∈ U → t ∈ U → T (alike U E s t) → Closure U E s t
  alike_e sub {s} {t} i j y =
      sound_e U E (merges U E) (saturate_sound U E sub (length U + length E) (tested E) (tested_sound U E E (λ s t m. m)))
      (reflexive i) (reflexive j) (eqt→eq (find (merges U E) s) (find (merges U E) t) y)
