-- What follows from the definitions of specs/Judge.antt.
use mathlib.Core.Path.{◌≡◌, refl, sym, ap, subst}
use mathlib.Core.Logic.{◌⊎◌, inl, inr, ◌↔◌, ◌≢◌}
use mathlib.Core.Bool.{Bool, true, false, not, ◌&&◌, ◌||◌}
use mathlib.Core.List.Memᴰ
use mathlib.Core.List.{List, [], ◌∷◌}
use mathlib.Core.Option.{Option, none, some}
use Prim.Native.Nat.{ℕ, zero, suc, ◌≤◌, ◌<◌}
use native.Mathlib.Omega.{arith}
use lib.Dec.{T, T_not, not_T}
use lib.ListN.{length}
use Rattle.letters.specs.declared.Header.{Header}
use Rattle.letters.specs.declared.Letter.{Letter}
use Rattle.letters.specs.declared.Letter.TheVariants.{Copy, Apply, Equal, Unequal}
use Rattle.letters.specs.Letters.{Fits}
use Rattle.letters.specs.Coding.{fits_test}
use Rattle.letters.proofs.Theory.WordLaws.{fits-test}
use Rattle.semantics.specs.Terms.{◌∈◌, Term, con, app, Trace, begin, ◌▸◌, State, after, state}
use Rattle.semantics.specs.Facts.{WellFormed}
use Rattle.semantics.proofs.Theory.Booleans.{is_true, or_not, and_l, and_r, and_i, or_e, or_l, or_r}
use Rattle.semantics.specs.Lists.{any, all, first_passing}
use Rattle.semantics.proofs.Theory.Lists.{any_e, any_i, all_e, all_i, all_n, FirstFound, at, nowhere, first_is}
use Rattle.semantics.specs.TermEquality.{eqt}
use Rattle.semantics.proofs.Theory.TermEquality.{eqt→eq, eq→eqt, eqt_or}
use Rattle.semantics.specs.Closure.{reflexive, symmetric, Equivalent, Held}
use Rattle.semantics.specs.Decide.{find, agree}
use Rattle.semantics.proofs.Theory.Decide.{alike_i, alike_e, less}
use Rattle.semantics.proofs.Theory.Facts.{eq_or, after_valid, state_valid}
use Rattle.semantics.specs.Facts.{Valid}
use Rattle.semantics.specs.Models.{Feasible}
use Rattle.semantics.proofs.Theory.Shown.{Clash, corollary_2}
use Rattle.semantics.specs.Window.{Exposed}
use Rattle.semantics.proofs.Theory.Climb.{Reaches, from, up, reaches_equal, above_climbs, climbs_above}
use Rattle.semantics.specs.Coherence.{Kept, Early, Memoizing, CoherentLetter, Coherent}
use Rattle.semantics.specs.Judgement.{size, FirstFailure}
use Rattle.semantics.specs.Judge.{touch, is_new_above, grow, merges_of, above, upto, held, kept, early, coherent_letter, coherent, feasible, first_failing}

module _ (U : List Term) (ms : List (Term × Term)) where
  -- nothing is left to add
  Closed : List Term → Type 0
  Closed R = (p : Term) → p ∈ U → ¬ T (is_new_above ms R p)

  new_not : (R : List Term) (p : Term) → T (is_new_above ms R p) → ¬ T (touch ms R p)
  new_not R (con r) y k = y
  new_not R (app f a b) y k = T_not (touch ms R (app f a b)) (and_l (not (touch ms R (app f a b))) (touch ms R a || touch ms R b) y) k

  grow_closed : (n : ℕ) (R l : List Term) → length l ≤ n → ((t : Term) → t ∈ U → T (touch ms R t) ⊎ (t ∈ l)) → Closed (grow U ms n R)
  unfolding Closed
  grow_closed zero R [] b h = λ p m y. elim (h p m) [ inl k ↦ new_not R p y k | inr k ↦ Memᴰ.not-nil k ]
  grow_closed zero R (x ∷ l) b h = λ p m y. omega arith
  grow_closed (suc n) R l b h = go (λ Q. grow_closed n Q) (first_is (is_new_above ms R) U)
    where
      rest : (p : Term) (k : List Term) → ((t : Term) → t ∈ l → t ≢ p → t ∈ k) → (t : Term) → T (touch ms R t) ⊎ (t ∈ l)
          → T (touch ms (p ∷ R) t) ⊎ (t ∈ k)
      rest p k v t (inl y) = inl (or_r (agree ms t p) (touch ms R t) y)
      rest p k v t (inr m) = elim (eqt_or t p) [
        | inl e ↦ inl (or_l (agree ms t p) (touch ms R t) (eq→eqt (find ms t) (find ms p) (ap (find ms) e)))
        | inr d ↦ inr (v t m d)
      ]

      go : ((Q k : List Term) → length k ≤ n → ((t : Term) → t ∈ U → T (touch ms Q t) ⊎ (t ∈ k)) → Closed (grow U ms n Q))
          → {o : Option Term} → FirstFound (is_new_above ms R) U o → Closed (elim o [ none ↦ R | some p ↦ (grow U ms) n (p ∷ R) ])
      go ih (nowhere q) = q
      go ih (at {a = p} m y) =
          let (k, e, v) = less {a = p} {l = l} (elim (h p m) [ inl k ↦ absurd (new_not R p y k) | inr k ↦ k ]) in
          ih (p ∷ R) k (omega arith) (λ t i. rest p k v t (h t i))

  -- a property that goes up with the applications holds of all that is added
  grow_all : (P : Term → Type 0) → ((f : ℕ) (a b r : Term) → app f a b ∈ U → P r → T (agree ms a r) ⊎ T (agree ms b r) → P (app f a b))
      → (n : ℕ) (R : List Term) → ((t : Term) → t ∈ R → P t) → (t : Term) → t ∈ (grow U ms) n R → P t
  grow_all P s zero R h = h
  grow_all P s (suc n) R h = go (λ Q. grow_all P s n Q) (first_is (is_new_above ms R) U)
    where
      added : (p : Term) → p ∈ U → T (is_new_above ms R p) → P p
      added (con r) m y = absurd y
      added (app f a b) m y =
          elim (or_e (touch ms R a) (touch ms R b) (and_r (not (touch ms R (app f a b))) (touch ms R a || touch ms R b) y)) [
            | inl k ↦ let (r, i, z) = any_e (agree ms a) R k in s f a b r m (h r i) (inl z)
            | inr k ↦ let (r, i, z) = any_e (agree ms b) R k in s f a b r m (h r i) (inr z)
          ]

      go : ((Q : List Term) → ((t : Term) → t ∈ Q → P t) → (t : Term) → t ∈ (grow U ms) n Q → P t)
          → {o : Option Term} → FirstFound (is_new_above ms R) U o → (t : Term) → t ∈ elim o [ none ↦ R | some p ↦ (grow U ms) n (p ∷ R) ] → P t
      go ih (nowhere q) t i = h t i
      go ih (at {a = p} m y) t i = ih (p ∷ R) (λ u j. elim (Memᴰ.cases_cons j) [ inl e ↦ subst P (sym e) (added p m y) | inr k ↦ h u k ]) t i

  grow_keeps : (n : ℕ) (R : List Term) (t : Term) → t ∈ R → t ∈ (grow U ms) n R
  grow_keeps zero R t m = m
  grow_keeps (suc n) R t m =
      elim (first_passing (is_new_above ms R) U) as (λ o. t ∈ elim o [ none ↦ R | some p ↦ (grow U ms) n (p ∷ R) ])
      [ none ↦ m | some p ↦ grow_keeps n (p ∷ R) t (Memᴰ.tail m) ]

touch_path : (ms : List (Term × Term)) (R : List Term) (s t : Term) → find ms s ≡ find ms t → T (touch ms R s) → T (touch ms R t)
touch_path ms R s t e y = subst (λ n. T (any (λ r. eqt n (find ms r)) R)) e y

module _ (σ : State) (v : Valid σ) where
  same_name : {s t : Term} → Equivalent σ s t → find (merges_of σ) s ≡ find (merges_of σ) t
  same_name {s} {t} c = eqt→eq (find (merges_of σ) s) (find (merges_of σ) t) (alike_i σ.terms σ.equals c)

  pub agree_e : {s t : Term} → s ∈ σ.terms → t ∈ σ.terms → T (agree (merges_of σ) s t) → Equivalent σ s t
  agree_e i j y = alike_e σ.terms σ.equals v.arguments i j y

  pub above_i : {t s : Term} → Reaches σ t s → T (touch (merges_of σ) (above σ t) s)
  unfolding Closed
  above_i {t} (from {s} c) =
      any_i (agree (merges_of σ) s) (grow_keeps σ.terms (merges_of σ) (length σ.terms) (t ∷ []) t (Memᴰ.head refl))
      (eq→eqt (find (merges_of σ) s) (find (merges_of σ) t) (sym (same_name c)))
  above_i {t} (up {u} {s} {a} {b} {f} r m e c) =
      touch_path (merges_of σ) (above σ t) (app f a b) s (same_name c) (go (above_i r) (or_not (touch (merges_of σ) (above σ t) (app f a b))))
    where
      arg : T (touch (merges_of σ) (above σ t) u) → T (touch (merges_of σ) (above σ t) a || touch (merges_of σ) (above σ t) b)
      arg y = elim e [
        | inl p ↦ or_l (touch (merges_of σ) (above σ t) a) (touch (merges_of σ) (above σ t) b) (touch_path (merges_of σ) (above σ t) u a (same_name p) y)
        | inr p ↦ or_r (touch (merges_of σ) (above σ t) a) (touch (merges_of σ) (above σ t) b) (touch_path (merges_of σ) (above σ t) u b (same_name p) y)
      ]

      go : T (touch (merges_of σ) (above σ t) u) → T (touch (merges_of σ) (above σ t) (app f a b)) ⊎ ¬ T (touch (merges_of σ) (above σ t) (app f a b))
          → T (touch (merges_of σ) (above σ t) (app f a b))
      go y (inl k) = k
      go y (inr n) = absurd (grow_closed σ.terms (merges_of σ) (length σ.terms) (t ∷ []) σ.terms (omega arith) (λ s i. inr i) (app f a b) m
          (and_i (not (touch (merges_of σ) (above σ t) (app f a b))) (touch (merges_of σ) (above σ t) a || touch (merges_of σ) (above σ t) b)
          (not_T (touch (merges_of σ) (above σ t) (app f a b)) n) (arg y)))

  above_e : {t s : Term} → t ∈ σ.terms → s ∈ σ.terms → T (touch (merges_of σ) (above σ t) s) → Reaches σ t s
  above_e {t} {s} i j y =
      let (r, m, z) = any_e (agree (merges_of σ) s) (above σ t) y in
      let (k, h) = grow_all σ.terms (merges_of σ) (λ r. (r ∈ σ.terms) × Reaches σ t r)
      (λ f a b r m p e. (
        m,
        up p.1 m
            (elim e [
              | inl y ↦ inl (symmetric (agree_e (v.arguments f a b m).0 p.0 y))
              | inr y ↦ inr (symmetric (agree_e (v.arguments f a b m).1 p.0 y))
            ])
            (reflexive m),
      ))
      (length σ.terms) (t ∷ []) (λ r m. elim (Memᴰ.cases_cons m) [
        | inl e ↦ (Memᴰ.cast e i, from (subst (Equivalent σ t) (sym e) (reflexive i)))
        | inr k ↦ absurd (Memᴰ.not-nil k)
      ]) r m in
      reaches_equal h (symmetric (agree_e j k z))

-- ── the tests say what the definitions say ──
pub upto_i : {r n : ℕ} → r < n → r ∈ upto n
upto_i {r} {n} h = go n h
  where
    go : (n : ℕ) → r < n → r ∈ upto n
    go zero h = absurd (omega arith)
    go (suc n) h = elim (eq_or r n) [ inl e ↦ Memᴰ.head e | inr d ↦ Memᴰ.tail (go n (omega arith)) ]

pub upto_e : (n : ℕ) {r : ℕ} → r ∈ upto n → r < n
upto_e zero m = absurd (Memᴰ.not-nil m)
upto_e (suc n) {r} m = go (λ k. upto_e n k) (Memᴰ.cases_cons m)
  where
    go : (r ∈ upto n → r < n) → (r ≡ n) ⊎ (r ∈ upto n) → r < suc n
    go ih (inl e) = omega arith
    go ih (inr k) = omega (arith, ih k)

module _ (σ : State) (v : Valid σ) where
  pub held_i : {t : Term} → Held σ t → T (held (merges_of σ) σ t)
  held_i {t} (r, b, c) = any_i (λ r. agree (merges_of σ) t (σ.value r)) (upto_i b) (alike_i σ.terms σ.equals c)

  pub held_e : {t : Term} → t ∈ σ.terms → T (held (merges_of σ) σ t) → Held σ t
  held_e {t} m y =
      let (r, i, z) = any_e (λ r. agree (merges_of σ) t (σ.value r)) (upto σ.header.registers) y in
      (r, upto_e σ.header.registers i, agree_e σ v m (v.values r (upto_e σ.header.registers i)) z)

  pub kept_is : (t : Term) → t ∈ σ.terms → T (all (kept (merges_of σ) σ (above σ t)) σ.terms) ↔ Kept σ t
  kept_is t i = (
    λ y f a b m r. out f a b m (all_e (kept (merges_of σ) σ (above σ t)) y m) (above_climbs r),
    λ h. all_i (kept (merges_of σ) σ (above σ t)) σ.terms (into h),
  )
    where
      reached : Term → Bool
      reached = touch (merges_of σ) (above σ t)

      hd : Term → Bool
      hd = held (merges_of σ) σ

      out : (f : ℕ) (a b : Term) → app f a b ∈ σ.terms → T (kept (merges_of σ) σ (above σ t) (app f a b)) → Reaches σ t a ⊎ Reaches σ t b
          → Held σ (app f a b) × Held σ a × Held σ b
      out f a b m y r =
          let (j, k) = v.arguments f a b m in
          let z : T (reached a || reached b) = elim r [
            | inl p ↦ or_l (reached a) (reached b) (above_i σ v p)
            | inr p ↦ or_r (reached a) (reached b) (above_i σ v p)
          ] in
          elim (or_e (not (reached a || reached b)) (hd (app f a b) && (hd a && hd b)) y) [
            | inl n ↦ absurd (T_not (reached a || reached b) n z)
            | inr h ↦
                let g = and_r (hd (app f a b)) (hd a && hd b) h in
                (held_e m (and_l (hd (app f a b)) (hd a && hd b) h), held_e j (and_l (hd a) (hd b) g), held_e k (and_r (hd a) (hd b) g))
          ]

      into : Kept σ t → (p : Term) → p ∈ σ.terms → T (kept (merges_of σ) σ (above σ t) p)
      into h (con r) m = tt
      into h (app f a b) m =
          let (j, k) = v.arguments f a b m in
          elim (or_not (reached a || reached b)) [
            | inr n ↦ or_l (not (reached a || reached b)) (hd (app f a b) && (hd a && hd b)) (not_T (reached a || reached b) n)
            | inl y ↦
                let (u, v, x) = h f a b m (climbs_above (elim (or_e (reached a) (reached b) y) [
                  | inl p ↦ inl (above_e σ v i j p)
                  | inr p ↦ inr (above_e σ v i k p)
                ])) in
                or_r (not (reached a || reached b)) (hd (app f a b) && (hd a && hd b))
                (and_i (hd (app f a b)) (hd a && hd b) (held_i u) (and_i (hd a) (hd b) (held_i v) (held_i x)))
          ]

-- above a computed term all is held, or something is exposed
pub exposed_or_kept : (σ : State) → Valid σ → (t : Term) → t ∈ σ.terms → Exposed σ.terms σ.equals (Held σ) t ⊎ Kept σ t
exposed_or_kept σ v t i = go (or_not (all (kept (merges_of σ) σ (above σ t)) σ.terms))
  where
    reached : Term → Bool
    reached = touch (merges_of σ) (above σ t)

    hd : Term → Bool
    hd = held (merges_of σ) σ

    witness : (p : Term) → p ∈ σ.terms → ¬ T (kept (merges_of σ) σ (above σ t) p) → Exposed σ.terms σ.equals (Held σ) t
    witness (con r) m n = absurd (n tt)
    witness (app f a b) m n =
        let (j, k) = v.arguments f a b m in
        record {
          function = f;
          first = a;
          second = b;
          listed = m;
          above = climbs_above (elim (or_not (reached a || reached b)) [
            | inl y ↦ elim (or_e (reached a) (reached b) y) [ inl p ↦ inl (above_e σ v i j p) | inr p ↦ inr (above_e σ v i k p) ]
            | inr o ↦ absurd (n (or_l (not (reached a || reached b)) (hd (app f a b) && (hd a && hd b)) (not_T (reached a || reached b) o)))
          ]);
          unheld = λ h. n (or_r (not (reached a || reached b)) (hd (app f a b) && (hd a && hd b))
              (and_i (hd (app f a b)) (hd a && hd b) (held_i σ v h.0) (and_i (hd a) (hd b) (held_i σ v h.1) (held_i σ v h.2))));
        }

    go : T (all (kept (merges_of σ) σ (above σ t)) σ.terms) ⊎ ¬ T (all (kept (merges_of σ) σ (above σ t)) σ.terms)
        → Exposed σ.terms σ.equals (Held σ) t ⊎ Kept σ t
    go (inl y) = inr ((kept_is σ v t i).0 y)
    go (inr n) = let (p, m, k) = all_n (kept (merges_of σ) σ (above σ t)) σ.terms n in inl (witness p m k)

memo_is : (σ : State) (x f y z : ℕ) → Valid σ → Fits σ.header (Apply x f y z) → T (coherent_letter σ (Apply x f y z)) ↔ Memoizing σ x f y z
memo_is σ x f y z v w = (out, into)
  where
    t : Term
    t = app f (σ.value y) (σ.value z)

    ms : List (Term × Term)
    ms = merges_of (after σ (Apply x f y z))

    old : Bool
    old = any (agree ms t) σ.terms

    now : Bool
    now = held ms σ t

    out : T (not old || now) → Memoizing σ x f y z
    out k s m c = elim (or_e (not old) now k) [
      | inl n ↦ absurd (T_not old n (any_i (agree ms t) m (alike_i (app f (σ.value y) (σ.value z) ∷ σ.terms) σ.equals c)))
      | inr h ↦
          let (r, i, q) = any_e (λ r. agree ms t (σ.value r)) (upto σ.header.registers) h in (
            r,
            upto_e σ.header.registers i,
            agree_e (after σ (Apply x f y z)) (after_valid σ (Apply x f y z) v w) (Memᴰ.head refl)
                (Memᴰ.tail (v.values r (upto_e σ.header.registers i))) q,
          )
    ]

    into : Memoizing σ x f y z → T (not old || now)
    into h = elim (or_not old) [
      | inr n ↦ or_l (not old) now (not_T old n)
      | inl k ↦
          let (s, m, q) = any_e (agree ms t) σ.terms k in
          let (r, b, c) = h s m (agree_e (after σ (Apply x f y z)) (after_valid σ (Apply x f y z) v w) (Memᴰ.head refl) (Memᴰ.tail m) q) in
          or_r (not old) now (any_i (λ r. agree ms t (σ.value r)) (upto_i b) (alike_i (app f (σ.value y) (σ.value z) ∷ σ.terms) σ.equals c))
    ]

pub early_computed : (σ : State) (x y : ℕ) → Valid σ → x < σ.header.registers → y < σ.header.registers → T (early σ x y) ↔ Early σ x y
early_computed σ x y v xb yb =
    let p = kept_is σ v (σ.value x) (v.values x xb) in
    let q = kept_is σ v (σ.value y) (v.values y yb) in
    let c = all (kept (merges_of σ) σ (above σ (σ.value x))) σ.terms in
    let d = all (kept (merges_of σ) σ (above σ (σ.value y))) σ.terms in
    (λ t. (p.0 (and_l c d t), q.0 (and_r c d t)), λ h. and_i c d (p.1 h.0) (q.1 h.1))

pub fine_is : (σ : State) (a : Letter) → Valid σ → Fits σ.header a → T (coherent_letter σ a) ↔ CoherentLetter σ a
fine_is σ (Copy x y) v w = (λ t. tt, λ t. tt)
fine_is σ (Apply x f y z) v w = memo_is σ x f y z v w
fine_is σ (Equal x y) v (xb, yb) =
    let a = agree (merges_of σ) (σ.value x) (σ.value y) in
    let (p, q) = early_computed σ x y v xb yb in (
      λ t. elim (or_e a (early σ x y) t) [ inl k ↦ inl (agree_e σ v (v.values x xb) (v.values y yb) k) | inr k ↦ inr (p k) ],
      λ h. elim h [ inl c ↦ or_l a (early σ x y) (alike_i σ.terms σ.equals c) | inr k ↦ or_r a (early σ x y) (q k) ],
    )
fine_is σ (Unequal x y) v w = (λ t. tt, λ t. tt)

pub coherent_is : (ρ : Trace) → WellFormed ρ → T (coherent ρ) ↔ Coherent ρ
coherent_is (begin h) w = (λ t. tt, λ t. tt)
coherent_is (ρ ▸ a) w =
    let p = coherent_is ρ w.0 in
    let q = fine_is (state ρ) a (state_valid ρ w.0) w.1 in (
      λ t. (p.0 (and_l (coherent ρ) (coherent_letter (state ρ) a) t), q.0 (and_r (coherent ρ) (coherent_letter (state ρ) a) t)),
      λ h. and_i (coherent ρ) (coherent_letter (state ρ) a) (p.1 h.0) (q.1 h.1),
    )

pub feasible_is : (σ : State) → Valid σ → T (feasible σ) ↔ Feasible σ
feasible_is σ v = (
  λ y. (corollary_2 σ v).1 (λ c. T_not (agree (merges_of σ) c.0 c.1) (all_e apart y c.2) (alike_i σ.terms σ.equals c.3)),
  λ f. all_i apart σ.unequals (λ p m. let (i, j) = v.unequal_sides p.0 p.1 m in
      not_T (agree (merges_of σ) p.0 p.1) (λ y. (corollary_2 σ v).0 f (p.0, p.1, m, agree_e σ v i j y))),
)
  where
    apart : Term × Term → Bool
    apart p = not (agree (merges_of σ) p.0 p.1)

pub clash_or_feasible : (σ : State) → Valid σ → Clash σ ⊎ Feasible σ
clash_or_feasible σ v = go (or_not (feasible σ))
  where
    apart : Term × Term → Bool
    apart p = not (agree (merges_of σ) p.0 p.1)

    go : T (feasible σ) ⊎ ¬ T (feasible σ) → Clash σ ⊎ Feasible σ
    go (inl y) = inr ((feasible_is σ v).0 y)
    go (inr n) =
        let (p, m, k) = all_n apart σ.unequals n in
        let (i, j) = v.unequal_sides p.0 p.1 m in
        elim (or_not (agree (merges_of σ) p.0 p.1)) [
          | inl y ↦ inl (p.0, p.1, m, agree_e σ v i j y)
          | inr o ↦ absurd (k (not_T (agree (merges_of σ) p.0 p.1) o))
        ]

pub fails_is : (P : Trace → Type 0) (p : Trace → Bool) → ((ρ : Trace) → WellFormed ρ → T (p ρ) ↔ P ρ) → ((h : Header) → P (begin h))
    → (ρ : Trace) → WellFormed ρ → FirstFailure P ρ (first_failing p ρ)
fails_is P p e b (begin h) w = b h
fails_is P p e b (ρ ▸ a) w = go (first_failing p ρ) (fails_is P p e b ρ w.0)
  where
    last : P ρ → (t : Bool) → p (ρ ▸ a) ≡ t → FirstFailure P (ρ ▸ a) (elim t [ true ↦ 0 | false ↦ suc (size ρ) ])
    last h true q = (e (ρ ▸ a) w).0 (subst T (sym q) tt)
    last h false q = inr (refl, h, λ k. subst T q ((e (ρ ▸ a) w).1 k))

    go : (k : ℕ) → FirstFailure P ρ k → FirstFailure P (ρ ▸ a) (elim k [ zero ↦ elim (p (ρ ▸ a)) [ true ↦ 0 | false ↦ suc (size ρ) ] | suc k ↦ suc k ])
    go zero h = last h (p (ρ ▸ a)) refl
    go (suc k) h = inl h

-- ── well-formed traces ──
abbrev pub formed : Trace → Bool
formed (begin h) = true
formed (ρ ▸ a) = formed ρ && fits_test (state ρ).header a

pub formed_e : (ρ : Trace) → T (formed ρ) → WellFormed ρ
formed_e (begin h) t = tt
formed_e (ρ ▸ a) t =
    let f = fits_test (state ρ).header a in
    (formed_e ρ (and_l (formed ρ) f t), (fits-test (state ρ).header a).0 (is_true f (and_r (formed ρ) f t)))
