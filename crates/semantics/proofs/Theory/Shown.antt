-- The shown model of a trace, and Corollary 2 of source document 000: a trace is feasible exactly if no unequal test joins terms
-- that are equal in the closure, and the shown model then satisfies it.
use mathlib.Core.Path.{◌≡◌, refl, sym, ◌∙◌, ap, ap₂, subst}
use mathlib.Core.Logic.{inl, inr, ◌↔◌}
use mathlib.Core.Bool.{◌&&◌}
use mathlib.Core.List.Memᴰ
use mathlib.Core.List.{List, [], ◌∷◌, reverse}
use Prim.Native.Nat.{ℕ, zero, suc, ◌+◌, ◌<◌}
use native.Mathlib.Omega.{arith}
use lib.Dec.{T, eqb, eqb→eq, eqb_refl}
use lib.ListN.{length, get_or}
use Rattle.base.proofs.Theory.Choice.{by_test}
use Rattle.semantics.specs.Terms.{◌∈◌, Term, con, app, State}
use Rattle.semantics.proofs.Theory.Booleans.{and_l, and_r, and_i, of_true, of_false}
use Rattle.semantics.proofs.Theory.Lists.{in_reversed, reversed_in}
use Rattle.semantics.specs.Closure.{Closure, reflexive, symmetric, transitive, congruence, Equivalent}
use Rattle.semantics.proofs.Theory.ClosureLaws.{weaken}
use Rattle.semantics.specs.Facts.{Valid}
use Rattle.semantics.specs.Models.{Model, eval, Satisfies, Feasible}
use Rattle.semantics.specs.Tables.{Row, lists, result_in, row_of}
use Rattle.semantics.proofs.Theory.Tables.{model_of, InRange}
use Rattle.semantics.specs.ShownTables.{same_call, classes_of, class_value, rows_of, starts_from, shown_tables, shown_value, applications}
use Rattle.semantics.specs.Numbering.{Numbering, RowListing}
use Rattle.semantics.proofs.Theory.NumberingLaws as laws
use Rattle.semantics.proofs.Theory.FirstsLaws.{firsts_in}

starts_below : (v : Term → ℕ) (c : ℕ) → ((t : Term) → v t < suc c) → (k n r : ℕ) → get_or (starts_from v k n) r 0 < suc c
unfolding starts_from
starts_below v c h k zero r = omega arith
starts_below v c h k (suc n) zero = h (con k)
starts_below v c h k (suc n) (suc r) = starts_below v c h (suc k) n r

applications_below : (v : Term → ℕ) (c : ℕ) → ((t : Term) → v t < suc c) → (U : List Term) {r : Row} → r ∈ applications v U → r.result < suc c
unfolding applications
applications_below v c h [] m = absurd (Memᴰ.not-nil m)
applications_below v c h (con k ∷ U) m = applications_below v c h U m
applications_below v c h (app f s t ∷ U) m = elim (Memᴰ.cases_cons m) [
  | inl e ↦ subst (λ (k : Row). k.result < suc c) (sym e) (h (app f s t))
  | inr k ↦ applications_below v c h U k
]

-- All values of the shown tables are below their count.
pub in_range : (n : ℕ) (U : List Term) (E : List (Term × Term)) → InRange (shown_tables n U E)
unfolding shown_tables rows_of
in_range n U E = record {
  default = omega arith;
  starts = starts_below (class_value U E) (length (classes_of U E)) (laws.number_below U E) 0 n;
  rows = λ r m. elim (firsts_in same_call [] (applications (class_value U E) U) m) [
    | inl k ↦ absurd (Memᴰ.not-nil k)
    | inr k ↦ applications_below (class_value U E) (length (classes_of U E)) (laws.number_below U E) U k
  ];
}

-- The shown model, for n registers, computed terms U and equal tests E.
abbrev pub shown_model : ℕ → List Term → List (Term × Term) → Model
shown_model n U E = model_of (shown_tables n U E) (in_range n U E)

-- The shown model of a trace.
abbrev pub shown : State → Model
shown σ = shown_model σ.header.registers (reverse σ.terms) σ.equals

-- ── for any terms and equal tests ──
result_at : (rows : List Row) (f a b : ℕ) (r : Row) → r ∈ rows → T (lists f a b r)
    → (s : Row) × (s ∈ rows) × T (lists f a b s) × (result_in rows f a b ≡ s.result)
unfolding result_in
result_at [] f a b r m y = absurd (Memᴰ.not-nil m)
result_at (x ∷ rows) f a b r m y = by_test (lists f a b x)
    (λ e. (x, Memᴰ.head refl, of_true e, rw e))
    (λ e. elim (Memᴰ.cases_cons m) [
      | inl q ↦ absurd (of_false e (subst (λ k. T (lists f a b k)) q y))
      | inr k ↦ let (s, i, z, p) = result_at rows f a b r k y in (s, Memᴰ.tail i, z, rw e p)
    ])

pub start_at : (v : Term → ℕ) (k n r : ℕ) → r < n → get_or (starts_from v k n) r 0 ≡ v (con (k + r))
unfolding starts_from
start_at v k zero r h = absurd (omega arith)
start_at v k (suc n) zero h = ap (λ (m : ℕ). v (con m)) (omega arith)
start_at v k (suc n) (suc r) h = start_at v (suc k) n r (omega arith) ∙ ap (λ (m : ℕ). v (con m)) (omega arith)

module _ (n : ℕ) (U : List Term) (E : List (Term × Term)) (sub : (f : ℕ) (a b : Term) → app f a b ∈ U → (a ∈ U) × (b ∈ U)) where
  abbrev value : Term → ℕ
  value = class_value U E

  functional : (f : ℕ) (s t u w : Term) → app f s t ∈ U → app f u w ∈ U → value s ≡ value u → value t ≡ value w
      → value (app f s t) ≡ value (app f u w)
  functional f s t u w i j p q =
      let (a, b) = sub f s t i in
      let (c, d) = sub f u w j in
      laws.number_i U E (congruence i j (laws.number_e U E sub a c p) (laws.number_e U E sub b d q))

  -- the rows are those that document 01 asks for
  pub listing : RowListing U (class_value U E) (rows_of U E)
  unfolding rows_of
  listing = laws.listing value U functional

  module _ (constants : (r : ℕ) → con r ∈ U → r < n) where
    -- in the shown model a computed term has the value of its class
    pub eval_tables : (t : Term) → t ∈ U → eval (shown_model n U E) t ≡ class_value U E t
    unfolding model_of shown_tables
    eval_tables (con r) m = start_at value 0 n r (constants r m) ∙ ap (λ (k : ℕ). value (con k)) (omega arith)
    eval_tables (app f s t) m =
        let (i, j) = sub f s t m in
        ap₂ (result_in (rows_of U E) f) (eval_tables s i) (eval_tables t j) ∙ listed
        (result_at (rows_of U E) f (value s) (value t) (row_of value f s t) (listing.complete f s t m) self)
      where
        self : T (lists f (value s) (value t) (row_of value f s t))
        self = and_i (eqb f f) (eqb (value s) (value s) && eqb (value t) (value t)) (eqb_refl f)
            (and_i (eqb (value s) (value s)) (eqb (value t) (value t)) (eqb_refl (value s)) (eqb_refl (value t)))

        -- the row of another application of f to arguments of these values
        same : (g : ℕ) (u w : Term) → app g u w ∈ U → T (lists f (value s) (value t) (row_of value g u w)) → value (app g u w) ≡ value (app f s t)
        same g u w l z =
            let c = eqb (value s) (value u) in
            let d = eqb (value t) (value w) in
            let k = and_r (eqb f g) (c && d) z in
            let h = eqb→eq f g (and_l (eqb f g) (c && d) z) in
            functional g u w s t l (subst (λ n. app n s t ∈ U) h m) (sym (eqb→eq (value s) (value u) (and_l c d k)))
            (sym (eqb→eq (value t) (value w) (and_r c d k)))
            ∙ ap (λ n. value (app n s t)) (sym h)

        given : (r : Row) → r ∈ rows_of U E → T (lists f (value s) (value t) r) → r.result ≡ value (app f s t)
        given r k z =
            let (g, u, w, l, o) = listing.computed r k in
            ap (λ (k : Row). k.result) o ∙ same g u w l (subst (λ k. T (lists f (value s) (value t) k)) o z)

        listed : (r : Row) × (r ∈ rows_of U E) × T (lists f (value s) (value t) r) × (result_in (rows_of U E) f (value s) (value t) ≡ r.result)
            → result_in (rows_of U E) f (value s) (value t) ≡ value (app f s t)
        listed (r, k, z, e) = e ∙ given r k z

    -- the shown model satisfies exactly the equations of the closure
    pub shown_exact : (s t : Term) → s ∈ U → t ∈ U → (eval (shown_model n U E) s ≡ eval (shown_model n U E) t) ↔ Closure U E s t
    shown_exact s t i j = (
      λ e. laws.number_e U E sub i j (sym (eval_tables s i) ∙ e ∙ eval_tables t j),
      λ c. eval_tables s i ∙ laws.number_i U E c ∙ sym (eval_tables t j),
    )

-- ── for a trace ──
-- A model that satisfies the equal tests respects the closure.
pub respects : (M : Model) (σ : State) → Satisfies M σ.equals σ.unequals → {s t : Term} → Equivalent σ s t → eval M s ≡ eval M t
respects M σ h (reflexive m) = refl
respects M σ h (Closure.test m) = h.equal_hold _ _ m
respects M σ h (symmetric c) = sym (respects M σ h c)
respects M σ h (transitive c d) = respects M σ h c ∙ respects M σ h d
respects M σ h (congruence {f} i j p q) = ap₂ (M.table f) (respects M σ h p) (respects M σ h q)

-- An unequal test joins terms that are equal in the closure.
abbrev pub Clash : State → Type 0
Clash σ = (s : Term) × (t : Term) × ((s, t) ∈ σ.unequals) × Equivalent σ s t

module _ (σ : State) (v : Valid σ) where
  abbrev U : List Term
  U = reverse σ.terms

  pub to : {t : Term} → t ∈ σ.terms → t ∈ reverse σ.terms
  to m = in_reversed σ.terms [] (inl m)

  pub back : {t : Term} → t ∈ reverse σ.terms → t ∈ σ.terms
  back m = elim (reversed_in σ.terms [] m) [ inl k ↦ k | inr k ↦ absurd (Memᴰ.not-nil k) ]

  sub : (f : ℕ) (a b : Term) → app f a b ∈ U → (a ∈ U) × (b ∈ U)
  sub f a b m = let (i, j) = v.arguments f a b (back m) in (to i, to j)

  -- the order of the terms does not matter to the closure
  pub reversed : {s t : Term} → Closure (reverse σ.terms) σ.equals s t ↔ Equivalent σ s t
  reversed = (weaken (λ t m. back m), weaken (λ t m. to m))

  -- the numbering and the rows are those that document 01 asks for
  pub shown_numbering : Numbering (reverse σ.terms) σ.equals (shown_value σ) (length (classes_of (reverse σ.terms) σ.equals))
  shown_numbering = laws.numbering U σ.equals sub

  pub shown_listing : RowListing (reverse σ.terms) (shown_value σ) (rows_of (reverse σ.terms) σ.equals)
  shown_listing = listing σ.header.registers U σ.equals sub

  pub number_i : {s t : Term} → Equivalent σ s t → shown_value σ s ≡ shown_value σ t
  number_i c = laws.number_i U σ.equals (reversed.1 c)

  pub number_e : {s t : Term} → s ∈ σ.terms → t ∈ σ.terms → shown_value σ s ≡ shown_value σ t → Equivalent σ s t
  number_e i j e = reversed.0 (laws.number_e U σ.equals sub (to i) (to j) e)

  pub eval_shown : (t : Term) → t ∈ σ.terms → eval (shown σ) t ≡ shown_value σ t
  eval_shown t m = eval_tables σ.header.registers U σ.equals sub (λ r k. v.constants r (back k)) t (to m)

  -- the shown model of a trace in which no unequal test joins equal terms satisfies all its tests
  pub shown_satisfies : ¬ Clash σ → Satisfies (shown σ) σ.equals σ.unequals
  shown_satisfies n = record {
    equal_hold = λ s t m. let (i, j) = v.equal_sides s t m in eval_shown s i ∙ number_i (Closure.test m) ∙ sym (eval_shown t j);
    unequal_hold = λ s t m e. let (i, j) = v.unequal_sides s t m in n (s, t, m, number_e i j (sym (eval_shown s i) ∙ e ∙ eval_shown t j));
  }

  -- Corollary 2
  pub corollary_2 : Feasible σ ↔ (¬ Clash σ)
  corollary_2 = (λ f c. f.1.unequal_hold c.0 c.1 c.2 (respects f.0 σ f.1 c.3), λ n. (shown σ, shown_satisfies n))

  -- the tables that are shown for a feasible trace are a model of all its tests
  pub shown-model : Feasible σ → Satisfies (shown σ) σ.equals σ.unequals
  shown-model f = shown_satisfies (corollary_2.0 f)
