-- What follows from the definitions of specs/Numbering.antt.
use mathlib.Core.Path.{◌≡◌, refl, sym, ◌∙◌, ap, subst}
use mathlib.Core.Logic.{◌≢◌}
use mathlib.Core.List.Memᴰ
use mathlib.Core.List.{List, [], ◌∷◌}
use Prim.Native.Nat.{ℕ, ◌≤◌, ◌<◌}
use native.Mathlib.Omega.{arith}
use lib.Dec.{eqb, ltb}
use lib.ListN.{length}
use borrow.Author.Tests.{eqb-true, eqb-false, eq-eqb, ne_eqb, ltb-true, ltb-false}
use Rattle.base.proofs.Theory.Choice.{by_test}
use Rattle.semantics.specs.Terms.{◌∈◌, Term, con, app}
use Rattle.semantics.specs.Closure.{Closure, reflexive, symmetric, transitive, congruence}
use Rattle.closure.specs.Numbering.{nth, Numbered, Closed, Exact}

pub nth_last : (t : Term) (U : List Term) (i : ℕ) → i ≡ length U → nth (t ∷ U) i ≡ t
nth_last t U i e = rw (nth, eq-eqb i (length U) e)

pub nth_old : (t : Term) (U : List Term) (i : ℕ) → i < length U → nth (t ∷ U) i ≡ nth U i
nth_old t U i h = let n : i ≢ length U = λ e. omega arith in rw (nth, ne_eqb i (length U) n)

pub nth_in : (U : List Term) (i : ℕ) → i < length U → nth U i ∈ U
nth_in [] i h = absurd (omega arith)
nth_in (t ∷ U) i h = by_test (eqb i (length U))
    (λ e. Memᴰ.head (nth_last t U i (eqb-true i (length U) e)))
    (λ e. let n : i ≢ length U = eqb-false i (length U) e in
    let l : i < length U = omega arith in
    subst (λ u. u ∈ t ∷ U) (sym (nth_old t U i l)) (Memᴰ.tail (nth_in U i l)))

pub nth_of : {t : Term} {U : List Term} → t ∈ U → (i : ℕ) × (i < length U) × (nth U i ≡ t)
nth_of {t} (Memᴰ.head {x} {xs} e) = (length xs, omega arith, nth_last x xs (length xs) refl ∙ sym e)
nth_of {t} (Memᴰ.tail {x} {xs} m) = let (i, l, e) = nth_of m in (i, omega arith, nth_old x xs i l ∙ e)

con_app : {m f : ℕ} {a b : Term} → con m ≡ app f a b → ⊥
con_app e = let z : ◌≡◌ {A = ℕ} 0 1 = cc in omega arith

con_con : {m k : ℕ} → con m ≡ con k → m ≡ k
con_con e = cc

app_function : {f g : ℕ} {a b c d : Term} → app f a b ≡ app g c d → f ≡ g
app_function e = cc

app_first : {f g : ℕ} {a b c d : Term} → app f a b ≡ app g c d → a ≡ c
app_first e = cc

app_second : {f g : ℕ} {a b c d : Term} → app f a b ≡ app g c d → b ≡ d
app_second e = cc

module _ (U : List Term) (E : List (Term × Term)) (function first second : ℕ → ℕ) (registers n : ℕ) (num : Numbered U function first second registers n) where
  -- a number of an application is that of an application
  is_app : (i : ℕ) → i < n → (f : ℕ) (a b : Term) → nth U i ≡ app f a b → registers ≤ i
  is_app i h f a b e = by_test (ltb i registers)
      (λ t. absurd (con_app (sym (num.constant i (ltb-true i registers t)) ∙ e)))
      (λ t. ltb-false i registers t)

  is_con : (i : ℕ) → i < n → (m : ℕ) → nth U i ≡ con m → i ≡ m
  is_con i h m e = by_test (ltb i registers)
      (λ t. con_con (sym (num.constant i (ltb-true i registers t)) ∙ e))
      (λ t. absurd (con_app (sym e ∙ num.application i (ltb-false i registers t) h)))

  module _ (representative : ℕ → ℕ) (st : Closed function first second registers n representative) where
    -- two numbers of one term have one class
    twice : (t : Term) (i j : ℕ) → i < n → j < n → nth U i ≡ t → nth U j ≡ t → representative i ≡ representative j
    unfolding Closed
    twice (con m) i j h k p q = ap representative (is_con i h m p ∙ sym (is_con j k m q))
    twice (app f a b) i j h k p q =
        let l = is_app i h f a b p in
        let r = is_app j k f a b q in
        let u = sym (num.application i l h) ∙ p in
        let v = sym (num.application j r k) ∙ q in
        let il = num.first_before i l h in
        let ir = num.second_before i l h in
        let jl = num.first_before j r k in
        let jr = num.second_before j r k in
        st i j l h r k (app_function u ∙ sym (app_function v))
        (twice a (first i) (first j) (omega arith) (omega arith) (app_first u) (app_first v))
        (twice b (second i) (second j) (omega arith) (omega arith) (app_second u) (app_second v))

    -- every test's sides have one class, at some numbers of theirs
    module _ (tests : (s t : Term) → (s, t) ∈ E → (i : ℕ) × (j : ℕ) × (i < n) × (j < n) × (nth U i ≡ s) × (nth U j ≡ t) × (representative i ≡ representative j))
        (inside : (s t : Term) → Closure U E s t → (s ∈ U) × (t ∈ U)) where
      number_of : {t : Term} → t ∈ U → (i : ℕ) × (i < n) × (nth U i ≡ t)
      number_of m = let (i, l, e) = nth_of m in (i, omega (arith, num.count), e)

      pub all : {s t : Term} → Closure U E s t → (i j : ℕ) → i < n → j < n → nth U i ≡ s → nth U j ≡ t → representative i ≡ representative j
      unfolding Closed
      all {s} {t} (reflexive m) i j h k p q = twice s i j h k p q
      all {s} {t} (Closure.test m) i j h k p q =
          let (a, b, la, lb, ea, eb, c) = tests s t m in
          twice s i a h la p ea ∙ c ∙ twice t b j lb k eb q
      all (symmetric c) i j h k p q = sym (all c j i k h q p)
      all (transitive c d) i j h k p q =
          let (m, l, e) = number_of (inside _ _ c).1 in
          all c i m h l p e ∙ all d m j l k e q
      all (congruence {f} {a} {b} {c} {d} x y u v) i j h k p q =
          let l = is_app i h f a b p in
          let r = is_app j k f c d q in
          let u' = sym (num.application i l h) ∙ p in
          let v' = sym (num.application j r k) ∙ q in
          let il = num.first_before i l h in
          let ir = num.second_before i l h in
          let jl = num.first_before j r k in
          let jr = num.second_before j r k in
          st i j l h r k (app_function u' ∙ sym (app_function v'))
          (all u (first i) (first j) (omega arith) (omega arith) (app_first u') (app_first v'))
          (all v (second i) (second j) (omega arith) (omega arith) (app_second u') (app_second v'))

      -- sound and closed under congruence is exact
      pub exact : ((i j : ℕ) → i < n → j < n → representative i ≡ representative j → Closure U E (nth U i) (nth U j)) → Exact U E n representative
      exact s = record { sound = s; complete = λ i j h k c. all c i j h k refl refl }
