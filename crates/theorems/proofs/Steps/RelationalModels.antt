-- A data model that models relations satisfies the tests of a trace exactly if they hold with the relations.
use mathlib.Core.Path.{◌≡◌, refl, sym, ap, ap₂, ◌∙◌, subst}
use mathlib.Core.Logic.Iff
use mathlib.Core.Logic.{◌⊎◌, inl, inr, ◌↔◌, ◌≢◌}
use mathlib.Core.Bool.{Bool, true, false, cond, true≢false}
use mathlib.Core.List.Memᴰ
use mathlib.Core.List.{List, ◌∷◌}
use Prim.Native.Nat.{ℕ, suc, ◌≤◌, ◌<◌}
use native.Mathlib.Omega.{arith}
use lib.Dec.{eqb}
use borrow.Author.Tests.{lt-ltb, le-ltb, ne_eqb, eq-eqb, eqb-true}
use Rattle.base.specs.Choice.{pick}
use Rattle.letters.specs.declared.Letter.TheVariants.{Copy, Apply, Equal, Unequal}
use Rattle.semantics.specs.Terms.{Term, con, app, Trace, begin, ◌▸◌, State, value_after, state}
use Rattle.semantics.specs.Models.{Model, eval, Satisfies, Feasible}
use Rattle.semantics.specs.AnyModel.{AnyModel, eval_in, SatisfiesIn}
use Rattle.semantics.specs.Facts.{WellFormed}
use Rattle.semantics.proofs.Theory.Facts.{state_valid}
use Rattle.semantics.proofs.Theory.PaperLaws.{numbers, feasible_anywhere}
use Rattle.grammar.specs.Expanded.{result_register, truth_register}
use Rattle.grammar.specs.Meanings.{Meaning}
use Rattle.grammar.specs.MeaningOfTraces.{value_in, last_held, EqualHolds, UnequalHolds, AllHold}
use Rattle.theorems.specs.Relations.{FeasibleWithRelations, TestAsked}
use Rattle.theorems.specs.Relations.{right_copy, right_application, right_asking, right_equal, right_unequal, right_held, right_failed, RightSorts}
use Rattle.theorems.specs.Relations.{ModelsRelations, as_functions, as_relations}

-- ── one test more ──
module _ {ℓ} (A : AnyModel {ℓ}) (E D : List (Term × Term)) (s t : Term) where
  one_equal_more : (SatisfiesIn A E D × (eval_in A s ≡ eval_in A t)) ↔ SatisfiesIn A ((s, t) ∷ E) D
  one_equal_more = (
    λ (x, e). record {
      equal_hold = λ u v m. elim (Memᴰ.cases_cons m) [
        | inl k ↦ subst (λ (p : Term × Term). eval_in A p.0 ≡ eval_in A p.1) (sym k) e
        | inr i ↦ x.equal_hold u v i
      ];
      unequal_hold = x.unequal_hold;
    },
    λ x. (
      record { equal_hold = λ u v m. x.equal_hold u v (Memᴰ.tail m); unequal_hold = x.unequal_hold },
      x.equal_hold s t (Memᴰ.head refl),
    ),
  )

  one_unequal_more : (SatisfiesIn A E D × ¬ (eval_in A s ≡ eval_in A t)) ↔ SatisfiesIn A E ((s, t) ∷ D)
  one_unequal_more = (
    λ (x, e). record {
      equal_hold = x.equal_hold;
      unequal_hold = λ u v m. elim (Memᴰ.cases_cons m) [
        | inl k ↦ subst (λ (p : Term × Term). ¬ (eval_in A p.0 ≡ eval_in A p.1)) (sym k) e
        | inr i ↦ x.unequal_hold u v i
      ];
    },
    λ x. (
      record { equal_hold = x.equal_hold; unequal_hold = λ u v m. x.unequal_hold u v (Memᴰ.tail m) },
      x.unequal_hold s t (Memᴰ.head refl),
    ),
  )

false_exactly : (b : Bool) → (b ≡ false) ↔ (¬ (b ≡ true))
false_exactly true = (λ e. absurd (true≢false e), λ k. absurd (k refl))
false_exactly false = (λ e f. true≢false (sym f), λ k. refl)

-- ── what the registers have ──
-- a letter leaves the registers alone that are not its target
module _ (σ : State) (r x : ℕ) (apart : r ≢ x) where
  copy_leaves : (y : ℕ) → value_after σ (Copy x y) r ≡ σ.value r
  copy_leaves y = ap (λ b. σ.value (cond b y r)) (ne_eqb r x apart)

  apply_leaves : (f y z : ℕ) → value_after σ (Apply x f y z) r ≡ σ.value r
  apply_leaves f y z = ap (λ b. elim b [ true ↦ app f (σ.value y) (σ.value z) | false ↦ σ.value r ]) (ne_eqb r x apart)

apply_leaves_here {ℓ} : (R : Meaning {ℓ}) (ρ : Trace) (r x f y z : ℕ) → r ≢ x → value_in R (ρ ▸ Apply x f y z) r ≡ value_in R ρ r
apply_leaves_here R ρ r x f y z apart = ap (λ b. pick b (λ _. R.table f (value_in R ρ y) (value_in R ρ z)) λ _. value_in R ρ r) (ne_eqb r x apart)

apply_gives : (σ : State) (x f y z : ℕ) → value_after σ (Apply x f y z) x ≡ app f (σ.value y) (σ.value z)
apply_gives σ x f y z = ap (λ b. elim b [ true ↦ app f (σ.value y) (σ.value z) | false ↦ σ.value x ]) (eq-eqb x x refl)

-- an application into `result` asks a test, and no other does
module _ {ℓ} (n : ℕ) (R : Meaning {ℓ}) (ρ : Trace) (x f y z : ℕ) where
  not_asked : x ≢ n → last_held n R (ρ ▸ Apply x f y z) ≡ last_held n R ρ
  not_asked apart = ap (λ b. pick b (λ _. R.relation f (value_in R ρ y) (value_in R ρ z)) λ _. last_held n R ρ) (ne_eqb x n apart)

  was_asked : x ≡ n → last_held n R (ρ ▸ Apply x f y z) ≡ R.relation f (value_in R ρ y) (value_in R ρ z)
  was_asked same = ap (λ b. pick b (λ _. R.relation f (value_in R ρ y) (value_in R ρ z)) λ _. last_held n R ρ) (eq-eqb x n same)

module _ {ℓ} (n t : ℕ) (R : Meaning {ℓ}) (A : AnyModel {ℓ}) (c : ModelsRelations n t R A) where
  -- a declared register has the value that it has with relations
  declared_value : (τ : Trace) → RightSorts n t τ → (r : ℕ) → r < n → eval_in A ((state τ).value r) ≡ c.among (value_in R τ r)
  declared_value (begin h) s r l = c.starts r l
  declared_value (ρ ▸ a) (s, right_copy {x} {y} p q) r l =
      declared_value ρ s (cond (eqb r x) y r) (elim (eqb r x) as (λ b. cond b y r < n) [ true ↦ q | false ↦ l ])
  declared_value (ρ ▸ a) (s, right_application {x} {f} {y} {z} p q i j) r l = elim (eqb r x)
      as (λ b. eval_in A (elim b [ true ↦ app f ((state ρ).value y) ((state ρ).value z) | false ↦ (state ρ).value r ])
      ≡ c.among (pick b (λ _. R.table f (value_in R ρ y) (value_in R ρ z)) λ _. value_in R ρ r)) [
        | true ↦ (λ k. A.table f (declared_value ρ s y i k) (declared_value ρ s z j k)) ∙ c.functions f (value_in R ρ y) (value_in R ρ z) q
        | false ↦ declared_value ρ s r l
      ]
  declared_value (ρ ▸ a) (s, right_asking {f} {y} {z} p i j) r l =
      let apart : r ≢ n = λ k. omega arith in
      ap (eval_in A) (apply_leaves (state ρ) r n apart f y z) ∙ declared_value ρ s r l ∙ ap c.among (sym (apply_leaves_here R ρ r n f y z apart))
  declared_value (ρ ▸ a) (s, right_equal p q) r l = declared_value ρ s r l
  declared_value (ρ ▸ a) (s, right_unequal p q) r l = declared_value ρ s r l
  declared_value (ρ ▸ a) (s, right_held p) r l = declared_value ρ s r l
  declared_value (ρ ▸ a) (s, right_failed p) r l = declared_value ρ s r l

  -- `truth` has what it began with
  truth_value : (τ : Trace) → RightSorts n t τ → (state τ).value (truth_register n) ≡ con (truth_register n)
  truth_value (begin h) s = refl
  truth_value (ρ ▸ a) (s, right_copy {x} {y} p q) = copy_leaves (state ρ) (suc n) x (λ k. omega arith) y ∙ truth_value ρ s
  truth_value (ρ ▸ a) (s, right_application {x} {f} {y} {z} p q i j) = apply_leaves (state ρ) (suc n) x (λ k. omega arith) f y z ∙ truth_value ρ s
  truth_value (ρ ▸ a) (s, right_asking {f} {y} {z} p i j) = apply_leaves (state ρ) (suc n) n (λ k. omega arith) f y z ∙ truth_value ρ s
  truth_value (ρ ▸ a) (s, right_equal p q) = truth_value ρ s
  truth_value (ρ ▸ a) (s, right_unequal p q) = truth_value ρ s
  truth_value (ρ ▸ a) (s, right_held p) = truth_value ρ s
  truth_value (ρ ▸ a) (s, right_failed p) = truth_value ρ s

  -- `result` has the value of `truth` exactly if the last test held
  abbrev ResultTells : Term → Bool → Type ℓ
  ResultTells u b = (eval_in A u ≡ A.start (truth_register n)) ↔ (b ≡ true)

  tells_same : (u v : Term) (a b : Bool) → u ≡ v → a ≡ b → ResultTells v b → ResultTells u a
  tells_same u v a b e f (g, h) = (λ k. f ∙ g (ap (eval_in A) (sym e) ∙ k), λ k. ap (eval_in A) e ∙ h (sym f ∙ k))

  result_tells : (τ : Trace) → RightSorts n t τ → TestAsked n τ → ResultTells ((state τ).value (result_register n)) (last_held n R τ)
  result_tells (begin h) s w = absurd w
  result_tells (ρ ▸ a) (s, right_copy {x} {y} p q) w =
      tells_same _ _ _ _ (copy_leaves (state ρ) n x (λ k. omega arith) y) refl (result_tells ρ s w)
  result_tells (ρ ▸ a) (s, right_application {x} {f} {y} {z} p q i j) w =
      let apart : n ≢ x = λ k. omega arith in
      let before : TestAsked n ρ = elim w [ inl e ↦ absurd (apart (sym e)) | inr v ↦ v ] in
      tells_same _ _ _ _ (apply_leaves (state ρ) n x apart f y z) (not_asked n R ρ x f y z λ e. apart (sym e)) (result_tells ρ s before)
  result_tells (ρ ▸ a) (s, right_asking {f} {y} {z} p i j) w =
      let (g, h) = c.tests f (value_in R ρ y) (value_in R ρ z) p in
      let e : eval_in A (app f ((state ρ).value y) ((state ρ).value z)) ≡ A.table f (c.among (value_in R ρ y)) (c.among (value_in R ρ z)) =
      λ k. A.table f (declared_value ρ s y i k) (declared_value ρ s z j k) in
      tells_same _ _ _ _ (apply_gives (state ρ) n f y z) (was_asked n R ρ n f y z refl) (λ k. g (sym e ∙ k), λ k. e ∙ h k)
  result_tells (ρ ▸ a) (s, right_equal p q) w = result_tells ρ s w
  result_tells (ρ ▸ a) (s, right_unequal p q) w = result_tells ρ s w
  result_tells (ρ ▸ a) (s, right_held p) w = result_tells ρ s w
  result_tells (ρ ▸ a) (s, right_failed p) w = result_tells ρ s w

  -- ── the tests ──
  module _ (ρ : Trace) (s : RightSorts n t ρ) where
    -- of two declared registers
    module _ (x y : ℕ) (p : x < n) (q : y < n) where
      apart_from_result : x ≢ n
      apart_from_result k = omega arith

      declared_alike : (eval_in A ((state ρ).value x) ≡ eval_in A ((state ρ).value y)) ↔ (value_in R ρ x ≡ value_in R ρ y)
      declared_alike = (
        λ e. c.once (value_in R ρ x) (value_in R ρ y) (sym (declared_value ρ s x p) ∙ e ∙ declared_value ρ s y q),
        λ e. declared_value ρ s x p ∙ ap c.among e ∙ sym (declared_value ρ s y q),
      )

      equal_declared : EqualHolds n R ρ x y ↔ (eval_in A ((state ρ).value x) ≡ eval_in A ((state ρ).value y))
      equal_declared = (λ (g, h). declared_alike.1 (h apart_from_result), λ e. (λ k. absurd (apart_from_result k), λ k. declared_alike.0 e))

      unequal_declared : UnequalHolds n R ρ x y ↔ (¬ (eval_in A ((state ρ).value x) ≡ eval_in A ((state ρ).value y)))
      unequal_declared =
          (λ (g, h) e. h apart_from_result (declared_alike.0 e), λ e. (λ k. absurd (apart_from_result k), λ k i. e (declared_alike.1 i)))

    -- of `result` with `truth`
    module _ (w : TestAsked n ρ) where
      result_alike : (eval_in A ((state ρ).value (result_register n)) ≡ eval_in A ((state ρ).value (truth_register n))) ↔ (last_held n R ρ ≡ true)
      result_alike =
          let e : eval_in A ((state ρ).value (truth_register n)) ≡ A.start (truth_register n) = ap (eval_in A) (truth_value ρ s) in
          let (g, h) = result_tells ρ s w in
          (λ k. g (k ∙ e), λ k. h k ∙ sym e)

      equal_of_result : EqualHolds n R ρ (result_register n) (truth_register n)
          ↔ (eval_in A ((state ρ).value (result_register n)) ≡ eval_in A ((state ρ).value (truth_register n)))
      equal_of_result = (λ (g, h). result_alike.1 (g refl), λ e. (λ k. result_alike.0 e, λ k. absurd (k refl)))

      unequal_of_result : UnequalHolds n R ρ (result_register n) (truth_register n)
          ↔ (¬ (eval_in A ((state ρ).value (result_register n)) ≡ eval_in A ((state ρ).value (truth_register n))))
      unequal_of_result = (
        λ (g, h) e. (false_exactly (last_held n R ρ)).0 (g refl) (result_alike.0 e),
        λ e. (λ k. (false_exactly (last_held n R ρ)).1 (λ i. e (result_alike.1 i)), λ k. absurd (k refl)),
      )

  abbrev Satisfied : Trace → Type ℓ
  Satisfied τ = SatisfiesIn A (state τ).equals (state τ).unequals

  equal_step : (ρ : Trace) (x y : ℕ) → AllHold n R ρ ↔ Satisfied ρ → EqualHolds n R ρ x y ↔ (eval_in A ((state ρ).value x) ≡ eval_in A ((state ρ).value y))
      → AllHold n R (ρ ▸ Equal x y) ↔ Satisfied (ρ ▸ Equal x y)
  equal_step ρ x y g h =
      Iff.trans (Iff.and g h) (one_equal_more A (state ρ).equals (state ρ).unequals ((state ρ).value x) ((state ρ).value y))

  unequal_step : (ρ : Trace) (x y : ℕ) → AllHold n R ρ ↔ Satisfied ρ → UnequalHolds n R ρ x y ↔ (¬ (eval_in A ((state ρ).value x) ≡ eval_in A ((state ρ).value y)))
      → AllHold n R (ρ ▸ Unequal x y) ↔ Satisfied (ρ ▸ Unequal x y)
  unequal_step ρ x y g h =
      Iff.trans (Iff.and g h) (one_unequal_more A (state ρ).equals (state ρ).unequals ((state ρ).value x) ((state ρ).value y))

  -- All tests hold with the relations exactly if they hold in the model.
  pub hold_alike : (τ : Trace) → RightSorts n t τ → AllHold n R τ ↔ SatisfiesIn A (state τ).equals (state τ).unequals
  hold_alike (begin h) s = (
    λ x. record { equal_hold = λ u v m. absurd (Memᴰ.not-nil m); unequal_hold = λ u v m. absurd (Memᴰ.not-nil m) },
    λ x. tt,
  )
  hold_alike (ρ ▸ a) (s, right_copy p q) = hold_alike ρ s
  hold_alike (ρ ▸ a) (s, right_application p q i j) = hold_alike ρ s
  hold_alike (ρ ▸ a) (s, right_asking p i j) = hold_alike ρ s
  hold_alike (ρ ▸ a) (s, right_equal {x} {y} p q) = equal_step ρ x y (hold_alike ρ s) (equal_declared ρ s x y p q)
  hold_alike (ρ ▸ a) (s, right_unequal {x} {y} p q) = unequal_step ρ x y (hold_alike ρ s) (unequal_declared ρ s x y p q)
  hold_alike (ρ ▸ a) (s, right_held w) = equal_step ρ (result_register n) (truth_register n) (hold_alike ρ s) (equal_of_result ρ s w)
  hold_alike (ρ ▸ a) (s, right_failed w) = unequal_step ρ (result_register n) (truth_register n) (hold_alike ρ s) (unequal_of_result ρ s w)

-- ── relations as functions ──
pub functions_model {ℓ} : (n t : ℕ) (R : Meaning {ℓ}) → ModelsRelations n t R (as_functions n t R)
functions_model n t R = record {
  among = inl;
  once = λ a b e. cc;
  starts = λ r l. ap (λ b. pick b (λ _. inl (R.start r)) λ _. inr true) (lt-ltb r n l);
  functions = λ f a b l. ap (λ d. pick d (λ _. inl (R.table f a b)) λ _. inr (R.relation f a b)) (lt-ltb f t l);
  tests = λ f a b l. let e = test_answers f a b l in (λ k. truths (sym e ∙ k ∙ begins_true), λ k. e ∙ ap inr k ∙ sym begins_true);
}
  where
    begins_true : (as_functions n t R).start (truth_register n) ≡ inr true
    begins_true = ap (λ b. pick b (λ _. inl (R.start (truth_register n))) λ _. inr true) (le-ltb (suc n) n (omega arith))

    test_answers : (f : ℕ) (a b : R.Value) → t ≤ f → (as_functions n t R).table f (inl a) (inl b) ≡ inr (R.relation f a b)
    test_answers f a b l = ap (λ d. pick d (λ _. inl (R.table f a b)) λ _. inr (R.relation f a b)) (le-ltb f t l)

    truths : {a b : Bool} → ◌≡◌ {A = R.Value ⊎ Bool} (inr a) (inr b) → a ≡ b
    truths e = cc

-- ── functions as relations ──
value_among_numbers {ℓ} : (M : Model) (u : Term) → (eval_in (numbers {ℓ} M) u).lower ≡ eval M u
value_among_numbers M (con r) = refl
value_among_numbers M (app f s t) = ap₂ (M.table f) (value_among_numbers {ℓ} M s) (value_among_numbers {ℓ} M t)

-- a finite model among all models satisfies what it satisfies
satisfies_numbers {ℓ} : (M : Model) (E D : List (Term × Term)) → Satisfies M E D ↔ SatisfiesIn (numbers {ℓ} M) E D
satisfies_numbers M E D = (
  λ x. record {
    equal_hold = λ s t m. λ i. record { lower = (value_among_numbers {ℓ} M s ∙ x.equal_hold s t m ∙ sym (value_among_numbers {ℓ} M t)) i };
    unequal_hold = λ s t m e. x.unequal_hold s t m (sym (value_among_numbers {ℓ} M s) ∙ ap (λ v. v.lower) e ∙ value_among_numbers {ℓ} M t);
  },
  λ x. record {
    equal_hold = λ s t m. sym (value_among_numbers {ℓ} M s) ∙ ap (λ v. v.lower) (x.equal_hold s t m) ∙ value_among_numbers {ℓ} M t;
    unequal_hold = λ s t m e. x.unequal_hold s t m (λ i. record { lower = (value_among_numbers {ℓ} M s ∙ e ∙ sym (value_among_numbers {ℓ} M t)) i });
  },
)

pub relations_model {ℓ} : (n t : ℕ) (M : Model) → ModelsRelations n t (as_relations {ℓ} n M) (numbers {ℓ} M)
relations_model n t M = record {
  among = λ a. a;
  once = λ a b e. e;
  starts = λ r l. refl;
  functions = λ f a b l. refl;
  tests = λ f a b l. (
    λ e. eq-eqb _ _ (ap (λ v. v.lower) e),
    λ e. λ i. record { lower = eqb-true (M.table f a.lower b.lower) (M.start (truth_register n)) e i },
  );
}

module _ (n t : ℕ) (τ : Trace) (s : RightSorts n t τ) where
  pub as-functions {ℓ} : (R : Meaning {ℓ}) → AllHold n R τ ↔ SatisfiesIn (as_functions n t R) (state τ).equals (state τ).unequals
  as-functions R = hold_alike n t R (as_functions n t R) (functions_model n t R) τ s

  pub as-relations {ℓ} : (M : Model) → Satisfies M (state τ).equals (state τ).unequals ↔ AllHold n (as_relations {ℓ} n M) τ
  as-relations M =
      Iff.trans (satisfies_numbers {ℓ} M (state τ).equals (state τ).unequals)
      (Iff.symm (hold_alike n t (as_relations {ℓ} n M) (numbers {ℓ} M) (relations_model {ℓ} n t M) τ s))

  pub feasible_alike {ℓ} : WellFormed τ → Feasible (state τ) ↔ FeasibleWithRelations {ℓ} n τ
  feasible_alike w = (
    λ (M, x). (as_relations {ℓ} n M, (as-relations {ℓ} M).0 x),
    λ (R, x). (feasible_anywhere {ℓ} (state τ) (state_valid τ w)).1 (as_functions n t R, (as-functions R).0 x),
  )
