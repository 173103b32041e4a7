-- Document 01's closure, superterms, conditions and Corollary 2 are those of source document 000, restricted to computed terms;
-- and infeasible means that there is no model whatever.
use mathlib.Core.Path.{◌≡◌, refl, sym, ◌∙◌, ap, ap₂, subst}
use mathlib.Core.Logic.{◌⊎◌, inl, inr, ◌↔◌, ◌≢◌, Lift}
use mathlib.Core.Bool.{◌&&◌}
use mathlib.Core.List.Memᴰ
use mathlib.Core.List.{List, [], ◌∷◌, reverse}
use Prim.Native.Nat.{ℕ, ◌≤◌, ◌<◌}
use native.Mathlib.Omega.{arith}
use lib.Dec.{T, eqb, eqb→eq, ltb}
use borrow.Author.Tests.{ltb-true, ltb-false}
use lib.ListN.{get_or-eq_default}
use Rattle.base.proofs.Theory.Choice.{by_test}
use Rattle.letters.specs.declared.Letter.TheVariants.{Copy, Apply, Equal, Unequal}
use Rattle.letters.specs.Letters.{arity, Fits}
use Rattle.semantics.specs.Terms.{◌∈◌, Term, con, app, Trace, begin, ◌▸◌, State, start, after, state}
use Rattle.semantics.specs.Facts.{WellFormed}
use Rattle.semantics.proofs.Theory.Booleans.{and_l, and_r, of_true}
use Rattle.semantics.specs.Closure.{Closure, reflexive, symmetric, transitive, congruence, Equivalent, Held}
use Rattle.semantics.specs.Facts.{Valid}
use Rattle.semantics.proofs.Theory.Facts.{after_valid, state_valid, constants_i}
use Rattle.semantics.proofs.Theory.ClosureLaws.{held_equal}
use Rattle.semantics.specs.Models.{Model, eval, Feasible}
use Rattle.semantics.specs.AnyModel.{AnyModel, eval_in, SatisfiesIn, FeasibleInSomeModel}
use Rattle.semantics.proofs.Theory.Shown.{corollary_2, number_i, number_e, eval_shown, shown_numbering, shown_listing, to, back}
use Rattle.semantics.proofs.Theory.Shown.{shown}
use Rattle.semantics.specs.ShownTables.{shown_value}
use Rattle.semantics.proofs.Theory.ShownPacked.{starts_length, applications_fit}
use Rattle.semantics.specs.Tables.{Row, lists, result_in, row_of}
use Rattle.semantics.proofs.Theory.Tables.{model_of}
use Rattle.semantics.specs.ShownTables.{rows_of, starts_from, shown_tables}
use Rattle.semantics.specs.Coherence.{Superterm, once, again, Above, Kept, Early, Memoizing}
use Rattle.semantics.specs.Strict.{StrictlyCoherent}
use Rattle.semantics.specs.Paper.{Congruent, same, member, turned, joined, applied, ProperSubterm, SupertermModulo, HeldModulo, MemoizingModulo}
use Rattle.semantics.specs.Paper.{EarlyModulo, CoherentModulo}

-- ── models over any values ──
-- A model of the equal tests respects the closure.
pub respects_anywhere {ℓ} : (M : AnyModel {ℓ}) (σ : State) → SatisfiesIn M σ.equals σ.unequals → {s t : Term} → Equivalent σ s t
    → eval_in M s ≡ eval_in M t
respects_anywhere M σ h (reflexive m) = refl
respects_anywhere M σ h (Closure.test m) = h.equal_hold _ _ m
respects_anywhere M σ h (symmetric c) = sym (respects_anywhere M σ h c)
respects_anywhere M σ h (transitive c d) = respects_anywhere M σ h c ∙ respects_anywhere M σ h d
respects_anywhere M σ h (congruence {f} i j p q) = ap₂ (M.table f) (respects_anywhere M σ h p) (respects_anywhere M σ h q)

-- A finite model among all models, its values lifted to any universe.
abbrev pub numbers {ℓ} : Model → AnyModel {ℓ}
numbers M = record { Value = Lift {0, ℓ} ℕ; start = λ r. record { lower = M.start r }; table = λ f a b. record { lower = M.table f a.lower b.lower } }

eval_numbers {ℓ} : (M : Model) (t : Term) → (eval_in (numbers {ℓ} M) t).lower ≡ eval M t
eval_numbers M (con r) = refl
eval_numbers M (app f s t) = ap₂ (M.table f) (eval_numbers {ℓ} M s) (eval_numbers {ℓ} M t)

-- Feasible in a finite model exactly if feasible in some model, of whatever universe.
pub feasible_anywhere {ℓ} : (σ : State) → Valid σ → (Feasible σ → FeasibleInSomeModel {ℓ} σ) × (FeasibleInSomeModel {ℓ} σ → Feasible σ)
feasible_anywhere σ v = (
  λ (M, h). (
    numbers {ℓ} M,
    record {
      equal_hold = λ s t m. λ i. record { lower = (eval_numbers {ℓ} M s ∙ h.equal_hold s t m ∙ sym (eval_numbers {ℓ} M t)) i };
      unequal_hold = λ s t m e. h.unequal_hold s t m (sym (eval_numbers {ℓ} M s) ∙ ap (λ x. x.lower) e ∙ eval_numbers {ℓ} M t);
    },
  ),
  λ (M, h). (corollary_2 σ v).1 (λ (s, t, m, c). h.unequal_hold s t m (respects_anywhere M σ h c)),
)

-- An infeasible trace has no model whatever.
pub no_model {ℓ} : (σ : State) → Valid σ → ¬ Feasible σ → (M : AnyModel {ℓ}) → ¬ SatisfiesIn M σ.equals σ.unequals
no_model σ v n M h = n ((feasible_anywhere σ v).1 (M, h))

-- ── the congruence over all terms ──
-- Proposition 1: a model of the equations respects their congruence.
pub proposition_1 : (M : Model) (A : List (Term × Term)) → ((s t : Term) → (s, t) ∈ A → eval M s ≡ eval M t) → {s t : Term} → Congruent A s t
    → eval M s ≡ eval M t
proposition_1 M A h same = refl
proposition_1 M A h (member m) = h _ _ m
proposition_1 M A h (turned c) = sym (proposition_1 M A h c)
proposition_1 M A h (joined c d) = proposition_1 M A h c ∙ proposition_1 M A h d
proposition_1 M A h (applied {f} c d) = ap₂ (M.table f) (proposition_1 M A h c) (proposition_1 M A h d)

closure_congruent : {U : List Term} {A : List (Term × Term)} {s t : Term} → Closure U A s t → Congruent A s t
closure_congruent (reflexive m) = same
closure_congruent (Closure.test m) = member m
closure_congruent (symmetric c) = turned (closure_congruent c)
closure_congruent (transitive c d) = joined (closure_congruent c) (closure_congruent d)
closure_congruent (congruence i j p q) = applied (closure_congruent p) (closure_congruent q)

module _ (σ : State) (v : Valid σ) where
  equal_values : {s t : Term} → Congruent σ.equals s t → eval (shown σ) s ≡ eval (shown σ) t
  equal_values c = proposition_1 (shown σ) σ.equals
      (λ s t m. let (i, j) = v.equal_sides s t m in eval_shown σ v s i ∙ number_i σ v (Closure.test m) ∙ sym (eval_shown σ v t j)) c

  -- Between computed terms the congruence over all terms is the closure.
  pub congruent_is : {s t : Term} → s ∈ σ.terms → t ∈ σ.terms → Congruent σ.equals s t ↔ Equivalent σ s t
  congruent_is {s} {t} i j = (λ c. number_e σ v i j (sym (eval_shown σ v s i) ∙ equal_values c ∙ eval_shown σ v t j), closure_congruent)

  pub held_is : {t : Term} → t ∈ σ.terms → HeldModulo σ t ↔ Held σ t
  held_is i = (
    λ (r, b, c). (r, b, symmetric ((congruent_is (v.values r b) i).0 c)),
    λ (r, b, c). (r, b, turned (closure_congruent c)),
  )

  -- Corollary 2: "an execution ρ is feasible iff ≅_α(ρ) ∩ β(ρ) = ∅." The source document builds the term model for it; here the shown model
  -- serves, so that the term model is not built.
  pub corollary_2_is : Feasible σ ↔ (¬ ((s : Term) × (t : Term) × ((s, t) ∈ σ.unequals) × Congruent σ.equals s t))
  corollary_2_is = (
    λ f (s, t, m, c). let (i, j) = v.unequal_sides s t m in (corollary_2 σ v).0 f (s, t, m, (congruent_is i j).0 c),
    λ n. (corollary_2 σ v).1 (λ (s, t, m, c). n (s, t, m, closure_congruent c)),
  )

-- ── superterms ──
-- a result other than 0 is in a row
row_there : (rows : List Row) (f a b : ℕ) → result_in rows f a b ≢ 0 → (r : Row) × (r ∈ rows) × T (lists f a b r)
unfolding result_in
row_there [] f a b n = absurd (n refl)
row_there (x ∷ rows) f a b n = by_test (lists f a b x)
    (λ e. (x, Memᴰ.head refl, of_true e))
    (λ e. let (r, m, y) = row_there rows f a b (rw e at n) in (r, Memᴰ.tail m, y))

module _ (σ : State) (v : Valid σ) (computed : (r : ℕ) → r < σ.header.registers → con r ∈ σ.terms) where
  abbrev value : Term → ℕ
  value = eval (shown σ)

  -- the term is congruent to a computed one
  abbrev Near : Term → Type 0
  Near w = (u : Term) × (u ∈ σ.terms) × Congruent σ.equals w u

  value_near : {w u : Term} → u ∈ σ.terms → Congruent σ.equals w u → value w ≡ shown_value σ u
  value_near m c = equal_values σ v c ∙ eval_shown σ v _ m

  positive : {u : Term} → u ∈ σ.terms → shown_value σ u ≢ 0
  positive {u} m e = let (a, b) = ((shown_numbering σ v).all (shown_value σ u)).1 (u, to σ v m, refl) in omega arith

  -- an application with a value has the arguments of a computed one
  record Computed (f : ℕ) (a b : Term) : Type 0 where
    first' : Term
    second' : Term
    listed : app f first' second' ∈ σ.terms
    at_first : Congruent σ.equals a first'
    at_second : Congruent σ.equals b second'
    first_value : value a ≢ 0
    second_value : value b ≢ 0

  argument : (a u : Term) → u ∈ σ.terms → value a ≡ shown_value σ u → (value a ≢ 0 → Near a) → (value a ≢ 0) × Congruent σ.equals a u
  argument a u m e ih =
      let n : value a ≢ 0 = λ z. positive m (sym e ∙ z) in
      let (w, i, c) = ih n in
      (n, joined c (closure_congruent (number_e σ v i m (sym (value_near i c) ∙ e))))

  computed_application : (f : ℕ) (a b : Term) → (value a ≢ 0 → Near a) → (value b ≢ 0 → Near b) → value (app f a b) ≢ 0 → Computed f a b
  unfolding model_of shown_tables
  computed_application f a b ia ib n =
      let (r, m, y) = row_there (rows_of (reverse σ.terms) σ.equals) f (value a) (value b) n in
      let (g, s, t, i, e) = (shown_listing σ v).computed r m in
      go g s t (back σ v i) (subst (λ k. T (lists f (value a) (value b) k)) e y)
    where
      go : (g : ℕ) (s t : Term) → app g s t ∈ σ.terms → T (lists f (value a) (value b) (row_of (shown_value σ) g s t)) → Computed f a b
      go g s t m y =
          let c = eqb (value a) (shown_value σ s) in
          let d = eqb (value b) (shown_value σ t) in
          let z = and_r (eqb f g) (c && d) y in
          let (i, j) = v.arguments g s t m in
          let (p, q) = argument a s i (eqb→eq (value a) (shown_value σ s) (and_l c d z)) ia in
          let (h, o) = argument b t j (eqb→eq (value b) (shown_value σ t) (and_r c d z)) ib in
          record {
            first' = s;
            second' = t;
            listed = subst (λ k. app k s t ∈ σ.terms) (sym (eqb→eq f g (and_l (eqb f g) (c && d) y))) m;
            at_first = q;
            at_second = o;
            first_value = p;
            second_value = h;
          }

  -- a term with a value other than 0 is congruent to a computed one
  near : (w : Term) → value w ≢ 0 → Near w
  unfolding model_of shown_tables
  near (con r) n = by_test (ltb r σ.header.registers)
      (λ e. (con r, computed r (ltb-true r σ.header.registers e), same))
      (λ e. absurd (n (get_or-eq_default (starts_from (shown_value σ) 0 σ.header.registers) 0
      (subst (λ (k : ℕ). k ≤ r) (sym (starts_length (shown_value σ) 0 σ.header.registers)) (ltb-false r σ.header.registers e)))))
  near (app f a b) n =
      let k = computed_application f a b (near a) (near b) n in
      (app f k.first' k.second', k.listed, applied k.at_first k.at_second)

  -- a term congruent to a computed one is an application of terms congruent to computed ones
  application : (f : ℕ) (a b : Term) → value (app f a b) ≢ 0 → Computed f a b
  application f a b n = computed_application f a b (near a) (near b) n

  within_superterm : {p w : Term} → ProperSubterm p w → value w ≢ 0 → {t : Term} → t ∈ σ.terms → Congruent σ.equals p t → {s : Term} → s ∈ σ.terms
      → Congruent σ.equals w s
      → Superterm σ.terms σ.equals t s
  within_superterm {p} (ProperSubterm.first {f} {b}) n i c j d =
      let k = application f p b n in
      let (x, y) = v.arguments f k.first' k.second' k.listed in
      once k.listed (inl ((congruent_is σ v i x).0 (joined (turned c) k.at_first)))
      ((congruent_is σ v k.listed j).0 (joined (turned (applied k.at_first k.at_second)) d))
  within_superterm {p} (ProperSubterm.second {f} {a}) n i c j d =
      let k = application f a p n in
      let (x, y) = v.arguments f k.first' k.second' k.listed in
      once k.listed (inr ((congruent_is σ v i y).0 (joined (turned c) k.at_second)))
      ((congruent_is σ v k.listed j).0 (joined (turned (applied k.at_first k.at_second)) d))
  within_superterm {p} (ProperSubterm.in_first {f} {a} {b} h) n i c j d =
      let k = application f a b n in
      let (x, y) = v.arguments f k.first' k.second' k.listed in
      again (within_superterm h k.first_value i c x k.at_first) k.listed (inl (reflexive x))
      ((congruent_is σ v k.listed j).0 (joined (turned (applied k.at_first k.at_second)) d))
  within_superterm {p} (ProperSubterm.in_second {f} {a} {b} h) n i c j d =
      let k = application f a b n in
      let (x, y) = v.arguments f k.first' k.second' k.listed in
      again (within_superterm h k.second_value i c y k.at_second) k.listed (inr (reflexive y))
      ((congruent_is σ v k.listed j).0 (joined (turned (applied k.at_first k.at_second)) d))

  superterm_modulo : {t s : Term} → Superterm σ.terms σ.equals t s → SupertermModulo σ.equals t s
  superterm_modulo (once {a} {b} {f} m (inl d) c) = record {
    lower = a;
    upper = app f a b;
    at_lower = turned (closure_congruent d);
    at_upper = closure_congruent c;
    within = ProperSubterm.first;
  }
  superterm_modulo (once {a} {b} {f} m (inr d) c) = record {
    lower = b;
    upper = app f a b;
    at_lower = turned (closure_congruent d);
    at_upper = closure_congruent c;
    within = ProperSubterm.second;
  }
  superterm_modulo (again {a} {b} {f} h m (inl d) c) =
      let k = superterm_modulo h in
      record {
        lower = k.lower;
        upper = app f k.upper b;
        at_lower = k.at_lower;
        at_upper = joined (applied (joined k.at_upper (closure_congruent d)) same) (closure_congruent c);
        within = ProperSubterm.in_first k.within;
      }
  superterm_modulo (again {a} {b} {f} h m (inr d) c) =
      let k = superterm_modulo h in
      record {
        lower = k.lower;
        upper = app f a k.upper;
        at_lower = k.at_lower;
        at_upper = joined (applied same (joined k.at_upper (closure_congruent d))) (closure_congruent c);
        within = ProperSubterm.in_second k.within;
      }

  -- Between computed terms, superterms modulo the congruence, through all terms, are those by computed applications.
  pub superterm_is : {t s : Term} → t ∈ σ.terms → s ∈ σ.terms → SupertermModulo σ.equals t s ↔ Superterm σ.terms σ.equals t s
  superterm_is i j = (
    λ k. within_superterm k.within (λ z. positive j (sym (value_near j k.at_upper) ∙ z)) i k.at_lower j k.at_upper,
    superterm_modulo,
  )

  -- ── Definition 5 ──
  -- Memoizing is the same.
  pub memoizing_is : (x f y z : ℕ) → Fits σ.header (Apply x f y z) → Memoizing σ x f y z ↔ MemoizingModulo σ f y z
  memoizing_is x f y z w = (
    λ h s m c. let (r, b, e) =
        h s m ((agrees new (Memᴰ.tail m)).0 (turned c)) in (r, b, turned ((agrees new (Memᴰ.tail (v.values r b))).1 e)),
    λ h s m e. let (r, b, c) =
        h s m (turned ((agrees new (Memᴰ.tail m)).1 e)) in (r, b, (agrees new (Memᴰ.tail (v.values r b))).0 (turned c)),
  )
    where
      agrees : {s t : Term} → s ∈ app f (σ.value y) (σ.value z) ∷ σ.terms → t ∈ app f (σ.value y) (σ.value z) ∷ σ.terms
          → Congruent σ.equals s t ↔ Closure (app f (σ.value y) (σ.value z) ∷ σ.terms) σ.equals s t
      agrees i j = congruent_is (after σ (Apply x f y z)) (after_valid σ (Apply x f y z) v w) i j

      new : app f (σ.value y) (σ.value z) ∈ app f (σ.value y) (σ.value z) ∷ σ.terms
      new = Memᴰ.head refl

  superterm_equal : {t u s : Term} → Superterm σ.terms σ.equals t u → Equivalent σ u s → Superterm σ.terms σ.equals t s
  superterm_equal (once m d c) e = once m d (transitive c e)
  superterm_equal (again h m d c) e = again h m d (transitive c e)

  -- The results of the computed applications above t are held.
  abbrev pub ResultsKept : Term → Type 0
  ResultsKept t = (f : ℕ) (a b : Term) → app f a b ∈ σ.terms → Above σ.terms σ.equals t a b → Held σ (app f a b)

  results_superterms : {t s : Term} → ResultsKept t → Superterm σ.terms σ.equals t s → Held σ s
  results_superterms k (once m (inl d) c) = held_equal σ (k _ _ _ m (inl (inl d))) c
  results_superterms k (once m (inr d) c) = held_equal σ (k _ _ _ m (inr (inl d))) c
  results_superterms k (again h m (inl d) c) = held_equal σ (k _ _ _ m (inl (inr (superterm_equal h d)))) c
  results_superterms k (again h m (inr d) c) = held_equal σ (k _ _ _ m (inr (inr (superterm_equal h d)))) c

  -- Definition 5 asks for the results alone.
  pub early_results : (x y : ℕ) → x < σ.header.registers → y < σ.header.registers → ResultsKept (σ.value x) → ResultsKept (σ.value y)
      → EarlyModulo σ x y
  early_results x y xb yb p q s m k = (held_is σ v m).1 (elim k [
    | inl h ↦ results_superterms p ((superterm_is (v.values x xb) m).0 h)
    | inr h ↦ results_superterms q ((superterm_is (v.values y yb) m).0 h)
  ])

  -- Document 01's early rule asks what Definition 5 asks, and more.
  pub early_stricter : (x y : ℕ) → x < σ.header.registers → y < σ.header.registers → Early σ x y → EarlyModulo σ x y
  early_stricter x y xb yb (p, q) = early_results x y xb yb (λ f a b m k. (p f a b m k).0) (λ f a b m k. (q f a b m k).0)

  -- It asks no more where every application has one argument.
  pub early_one : ((f : ℕ) (s t : Term) → app f s t ∈ σ.terms → s ≡ t) → (x y : ℕ) → x < σ.header.registers → y < σ.header.registers
      → EarlyModulo σ x y → Early σ x y
  early_one one x y xb yb h = (kept x xb (λ s m k. h s m (inl k)), kept y yb (λ s m k. h s m (inr k)))
    where
      kept : (r : ℕ) → r < σ.header.registers → ((s : Term) → s ∈ σ.terms → SupertermModulo σ.equals (σ.value r) s → HeldModulo σ s)
          → Kept σ (σ.value r)
      kept r b g f s t m k =
          let e = one f s t m in
          let (i, j) = v.arguments f s t m in
          let o = elim k as (λ _. Closure σ.terms σ.equals (σ.value r) s ⊎ Superterm σ.terms σ.equals (σ.value r) s) [
            | inl n ↦ n
            | inr n ↦ subst (λ u. Closure σ.terms σ.equals (σ.value r) u ⊎ Superterm σ.terms σ.equals (σ.value r) u) (sym e) n
          ] in
          let a : Held σ s = elim o [ inl c ↦ (r, b, symmetric c) | inr n ↦ (held_is σ v i).0 (g s i ((superterm_is (v.values r b) i).1 n)) ] in
          let above : Superterm σ.terms σ.equals (σ.value r) (app f s t) = elim o [
            | inl c ↦ once m (inl c) (reflexive m)
            | inr n ↦ again n m (inl (reflexive i)) (reflexive m)
          ] in
          ((held_is σ v m).0 (g (app f s t) m ((superterm_is (v.values r b) m).1 above)), a, subst (Held σ) e a)

-- ── traces ──
pub constants_computed : (ρ : Trace) (r : ℕ) → r < (state ρ).header.registers → con r ∈ (state ρ).terms
constants_computed (begin h) r b = constants_i h.registers r b
constants_computed (ρ ▸ Copy x y) r b = constants_computed ρ r b
constants_computed (ρ ▸ Apply x f y z) r b = Memᴰ.tail (constants_computed ρ r b)
constants_computed (ρ ▸ Equal x y) r b = constants_computed ρ r b
constants_computed (ρ ▸ Unequal x y) r b = constants_computed ρ r b

-- A trace that is coherent by document 01's own rule is coherent by Definition 5.
pub coherent_stricter : (ρ : Trace) → WellFormed ρ → StrictlyCoherent ρ → CoherentModulo ρ
coherent_stricter (begin h) w c = tt
coherent_stricter (ρ ▸ Copy x y) w c = (coherent_stricter ρ w.0 c.0, tt)
coherent_stricter (ρ ▸ Apply x f y z) w c =
    (coherent_stricter ρ w.0 c.0, (memoizing_is (state ρ) (state_valid ρ w.0) (constants_computed ρ) x f y z w.1).0 c.1)
coherent_stricter (ρ ▸ Equal x y) w c =
    (coherent_stricter ρ w.0 c.0, early_stricter (state ρ) (state_valid ρ w.0) (constants_computed ρ) x y w.1.0 w.1.1 c.1)
coherent_stricter (ρ ▸ Unequal x y) w c = (coherent_stricter ρ w.0 c.0, tt)

-- Where all functions take one argument, the two are the same.
pub strict_one : (ρ : Trace) → WellFormed ρ → ((f : ℕ) → arity (state ρ).header f ≡ 1) → CoherentModulo ρ → StrictlyCoherent ρ
strict_one (begin h) w one c = tt
strict_one (ρ ▸ Copy x y) w one c = (strict_one ρ w.0 one c.0, tt)
strict_one (ρ ▸ Apply x f y z) w one c =
    (strict_one ρ w.0 one c.0, (memoizing_is (state ρ) (state_valid ρ w.0) (constants_computed ρ) x f y z w.1).1 c.1)
strict_one (ρ ▸ Equal x y) w one c = (
  strict_one ρ w.0 one c.0,
  early_one (state ρ) (state_valid ρ w.0) (constants_computed ρ) (λ f s t m. (applications_fit ρ w.0 f s t m).1 (one f)) x y w.1.0
      w.1.1 c.1,
)
strict_one (ρ ▸ Unequal x y) w one c = (strict_one ρ w.0 one c.0, tt)
