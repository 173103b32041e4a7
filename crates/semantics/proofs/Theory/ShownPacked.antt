-- The shown tables of a trace fit their packing.
use mathlib.Core.Path.{◌≡◌, refl, sym, ◌∙◌, ap, subst}
use mathlib.Core.Logic.{inl, inr}
use mathlib.Core.List.Memᴰ
use mathlib.Core.List.{List, [], ◌∷◌, ◌++◌, reverse}
use Prim.Native.Nat.{ℕ, zero, suc, ◌+◌, ◌*◌, ◌^◌, ◌≤◌, ◌<◌}
use native.Mathlib.Omega.{arith}
use lib.ListN.{length, length-append, length-reverse}
use Rattle.letters.specs.Editions.{Edition}
use Rattle.base.proofs.Theory.Choice.{by_test}
use Rattle.letters.specs.declared.Letter.TheVariants.{Copy, Apply, Equal, Unequal}
use Rattle.letters.specs.Letters.{arity}
use Rattle.letters.specs.Packing.{total}
use Rattle.semantics.specs.Terms.{◌∈◌, Term, con, app, Trace, begin, ◌▸◌, State, state}
use Rattle.semantics.specs.Facts.{WellFormed}
use mathlib.Core.Bool.{Bool}
use Rattle.semantics.specs.Lists.{any}
use Rattle.semantics.specs.Decide.{alike}
use Rattle.semantics.specs.Facts.{Valid}
use Rattle.semantics.proofs.Theory.Facts.{constants_app}
use Rattle.semantics.specs.Firsts.{firsts_after}
use Rattle.semantics.specs.Tables.{Row}
use Rattle.semantics.specs.ShownTables.{same_call, applications, rows_of, classes_of, class_value, starts_from, shown_tables}
use Rattle.semantics.specs.Numbering.{RowListing}
use Rattle.semantics.proofs.Theory.NumberingLaws as laws
use Rattle.semantics.specs.ShownTables.{tables_of, shown_value}
use Rattle.semantics.proofs.Theory.Shown.{shown_listing, back}
use Rattle.semantics.specs.PackedTables.{row_widths, row_bytes, word_bytes}
use Rattle.semantics.specs.TablesRead.{Packable}

-- ── at most as many classes and rows as terms ──
firsts_length : {A : Type 0} (same : A → A → Bool) (kept l : List A) → length (firsts_after same kept l) ≤ length kept + length l
unfolding firsts_after
firsts_length same kept [] = omega arith
firsts_length same kept (x ∷ l) = by_test (any (same x) kept)
    (λ e. rw e (omega (arith, firsts_length same kept l)))
    (λ e. rw e (omega (arith, firsts_length same (kept ++ x ∷ []) l, length-append kept (x ∷ []))))

applications_length : (v : Term → ℕ) (l : List Term) → length (applications v l) ≤ length l
unfolding applications
applications_length v [] = omega arith
applications_length v (con r ∷ l) = omega (arith, applications_length v l)
applications_length v (app f s t ∷ l) = omega (arith, applications_length v l)

pub classes_length : (U : List Term) (E : List (Term × Term)) → length (classes_of U E) ≤ length U
unfolding classes_of
classes_length U E = omega (arith, firsts_length (alike U E) [] U)

pub rows_length : (U : List Term) (E : List (Term × Term)) → length (rows_of U E) ≤ length U
unfolding rows_of
rows_length U E = omega (arith, firsts_length same_call [] (applications (class_value U E) U), applications_length (class_value U E) U)

pub starts_length : (v : Term → ℕ) (k n : ℕ) → length (starts_from v k n) ≡ n
unfolding starts_from
starts_length v k zero = refl
starts_length v k (suc n) = ap suc (starts_length v (suc k) n)

starts_below : (v : Term → ℕ) (c : ℕ) → ((t : Term) → v t < c) → (k n : ℕ) {m : ℕ} → m ∈ starts_from v k n → m < c
unfolding starts_from
starts_below v c h k zero m = absurd (Memᴰ.not-nil m)
starts_below v c h k (suc n) m = elim (Memᴰ.cases_cons m) [
  | inl e ↦ subst (λ j. j < c) (sym e) (h (con k))
  | inr i ↦ starts_below v c h (suc k) n i
]

-- ── computed applications fit the header ──
-- Each computed application is of a function of the header, and to one argument twice if that takes one.
abbrev pub ApplicationsFit : State → Type 0
ApplicationsFit σ = (f : ℕ) (s t : Term) → app f s t ∈ σ.terms → (f < σ.header.functions) × (arity σ.header f ≡ 1 → s ≡ t)

pub applications_fit : (ρ : Trace) → WellFormed ρ → ApplicationsFit (state ρ)
applications_fit (begin h) w f s t m = absurd (constants_app h.registers m)
applications_fit (ρ ▸ Copy x y) w f s t m = applications_fit ρ w.0 f s t m
applications_fit (ρ ▸ Equal x y) w f s t m = applications_fit ρ w.0 f s t m
applications_fit (ρ ▸ Unequal x y) w f s t m = applications_fit ρ w.0 f s t m
applications_fit (ρ ▸ Apply x g y z) w f s t m = elim (Memᴰ.cases_cons m) [
  | inl e ↦
      let p : f ≡ g = cc in
      let a : s ≡ (state ρ).value y = cc in
      let b : t ≡ (state ρ).value z = cc in (
        subst (λ k. k < (state ρ).header.functions) (sym p) w.1.1,
        λ q. a ∙ ap (state ρ).value (w.1.4 (subst (λ k. arity (state ρ).header k ≡ 1) p q)) ∙ sym b,
      )
  | inr k ↦ applications_fit ρ w.0 f s t k
]

-- ── the shown tables can be packed ──
pub shown_packable : (w : Edition) (σ : State) → Valid σ → ApplicationsFit σ → total (row_widths w) ≡ 8 * row_bytes
    → σ.header.functions ≤ 2 ^ w.row_function
    → length σ.terms < 2 ^ w.row_value → 2 ^ w.row_value < 2 ^ (8 * word_bytes) → Packable w σ.header (tables_of σ)
unfolding tables_of shown_tables
shown_packable w σ v fit width functions values words = record {
  width = width;
  registers = starts_length (shown_value σ) 0 σ.header.registers;
  count_fits = omega (arith, classes_length U σ.equals, long);
  rows_fit = omega (arith, rows_length U σ.equals, long);
  starts_fit = λ n m. omega (arith, starts_below (shown_value σ) (2 ^ w.row_value) small 0 σ.header.registers m);
  function_fits = λ r m. let (f, s, t, i, e) = list.computed r m in subst (λ (k : Row). k.function < 2 ^ w.row_function) (sym e)
      (omega (arith, (fit f s t (back σ v i)).0));
  first_fits = λ r m. let (f, s, t, i, e) = list.computed r m in subst (λ (k : Row). k.first < 2 ^ w.row_value) (sym e) (small s);
  second_fits = λ r m. let (f, s, t, i, e) = list.computed r m in subst (λ (k : Row). k.second < 2 ^ w.row_value) (sym e) (small t);
  result_fits = λ r m. let (f, s, t, i, e) = list.computed r m in subst (λ (k : Row). k.result < 2 ^ w.row_value) (sym e) (small (app f s t));
  twice = λ r m one.
      let (f, s, t, i, e) = list.computed r m in
      ap (λ (k : Row). k.second) e ∙ ap (shown_value σ)
      (sym ((fit f s t (back σ v i)).1 (subst (λ (k : Row). arity σ.header k.function ≡ 1) e one))) ∙ sym (ap (λ (k : Row). k.first) e);
}
  where
    U : List Term
    U = reverse σ.terms

    long : length (reverse σ.terms) ≡ length σ.terms
    long = length-reverse σ.terms

    small : (t : Term) → shown_value σ t < 2 ^ w.row_value
    small t = omega (arith, laws.number_below U σ.equals t, classes_length U σ.equals, long)

    list : RowListing (reverse σ.terms) (shown_value σ) (rows_of (reverse σ.terms) σ.equals)
    list = shown_listing σ v
