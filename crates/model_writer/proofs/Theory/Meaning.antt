-- What follows from the definitions of specs/Meaning.antt.
use mathlib.Core.Path.{◌≡◌, refl, sym, ◌∙◌, ap, subst}
use mathlib.Core.Logic.{inl, inr, ◌≢◌}
use mathlib.Core.Bool.{Bool}
use mathlib.Core.List.Memᴰ
use mathlib.Core.List.{List, [], ◌∷◌, ◌++◌, map, map-append, reverse, reverse-cons, append_assoc}
use Prim.Native.Nat.{ℕ, zero, suc, ◌+◌, ◌≤◌, ◌<◌}
use native.Mathlib.Omega.{arith}
use native.Mathlib.Numerals.{add-one}
use lib.Dec.{T, eqb, ltb}
use lib.ListN.{length, get_or, set, take, length-append}
use lib.Seq.{take-suc-set, take-set-le}
use borrow.Author.Tests.{eqb-true, eqb-false, ltb-true, ltb-false}
use Rattle.base.proofs.Theory.Choice.{by_test}
use Rattle.semantics.specs.Terms.{◌∈◌, Term, con, app, State}
use Rattle.semantics.specs.Lists.{any}
use Rattle.semantics.proofs.Theory.Lists.{any_e, any_i}
use Rattle.semantics.proofs.Theory.TermEquality.{eqt→eq, eq→eqt, eqt_refl}
use Rattle.semantics.specs.Closure.{Closure, symmetric}
use Rattle.semantics.specs.Decide.{find, merges, alike}
use Rattle.semantics.proofs.Theory.Decide.{alike_i, alike_e}
use Rattle.semantics.specs.Firsts.{firsts_after}
use Rattle.semantics.proofs.Theory.FirstsLaws.{firsts_append, firsts_seen, firsts_new, firsts_any_i, firsts_any_e}
use Rattle.semantics.proofs.Theory.FirstsLaws.{firsts_in}
use Rattle.semantics.specs.Tables.{Row, row_of}
use Rattle.semantics.specs.ShownTables.{same_call, applications, classes_of, rows_of}
use Rattle.semantics.proofs.Theory.NumberingLaws as laws
use Rattle.semantics.proofs.Theory.NumberingLaws.{call_i, call_e}
use Rattle.semantics.specs.ShownTables.{shown_value}
use Rattle.semantics.proofs.Theory.Shown.{number_i, number_e, reversed, back}
use Rattle.closure.specs.Numbering.{nth}
use Rattle.closure.proofs.Theory.Numbering.{nth_in, nth_of, nth_last, nth_old}
use Rattle.closure.specs.Arrays.{entry_at}
use Rattle.engine.specs.Engine.{Computed}
use Rattle.model_writer.specs.Values.{classes_below, value_at}
use Rattle.model_writer.specs.Rows.{New, new, old}
use Rattle.model_writer.specs.Meaning.{row_at}

-- The first i computed terms of U, which has the latest first, in order of computation.
unfoldable pub oldest : List Term → ℕ → List Term
oldest U zero = []
oldest U (suc i) = oldest U i ++ nth U i ∷ []

oldest_old : (t : Term) (U : List Term) (i : ℕ) → i ≤ length U → oldest (t ∷ U) i ≡ oldest U i
unfolding oldest
oldest_old t U zero h = refl
oldest_old t U (suc i) h = λ k. oldest_old t U i (omega arith) k ++ nth_old t U i (omega arith) k ∷ []

-- all of them
pub oldest_all : (U : List Term) → oldest U (length U) ≡ reverse U
unfolding oldest
oldest_all [] = refl
oldest_all (t ∷ U) = (λ k. oldest_old t U (length U) (omega arith) k ++ nth_last t U (length U) refl k ∷ []) ∙ ap (λ l. l ++ t ∷ []) (oldest_all U)
    ∙ sym (reverse-cons t U)

-- split at term i
oldest_split : (U : List Term) (i n : ℕ) → i < n → (after : List Term) × (oldest U n ≡ oldest U i ++ nth U i ∷ after)
unfolding oldest
oldest_split U i zero h = absurd (omega arith)
oldest_split U i (suc n) h = by_test (eqb i n)
    (λ t. ([], ap (λ j. oldest U j ++ nth U j ∷ []) (sym (eqb-true i n t))))
    (λ t. let d : i ≢ n = eqb-false i n t in
    let (after, e) = oldest_split U i n (omega arith) in
    (after ++ nth U n ∷ [], ap (λ l. l ++ nth U n ∷ []) e ∙ append_assoc (oldest U i) (nth U i ∷ after) (nth U n ∷ [])))

oldest_e : (U : List Term) (i : ℕ) {t : Term} → t ∈ oldest U i → (k : ℕ) × (k < i) × (nth U k ≡ t)
unfolding oldest
oldest_e U zero m = absurd (Memᴰ.not-nil m)
oldest_e U (suc i) m = elim (Memᴰ.append_cases (oldest U i) m) [
  | inl k ↦ let (j, h, e) = oldest_e U i k in (j, omega arith, e)
  | inr k ↦ elim (Memᴰ.cases_cons k) [ inl e ↦ (i, omega arith, sym e) | inr o ↦ absurd (Memᴰ.not-nil o) ]
]

oldest_i : (U : List Term) (i k : ℕ) → k < i → nth U k ∈ oldest U i
oldest_i U i k h = let (after, e) = oldest_split U k i h in subst (λ l. nth U k ∈ l) (sym e) (Memᴰ.append_right (oldest U k) (Memᴰ.head refl))

applications_append : (v : Term → ℕ) (l m : List Term) → applications v (l ++ m) ≡ applications v l ++ applications v m
unfolding applications
applications_append v [] m = refl
applications_append v (con r ∷ l) m = applications_append v l m
applications_append v (app f s t ∷ l) m = ap (λ r. row_of v f s t ∷ r) (applications_append v l m)

-- ---- two rows of one call
call_refl : (r : Row) → T (same_call r r)
call_refl r = call_i r r refl refl refl

call_trans : (r s t : Row) → T (same_call r s) → T (same_call s t) → T (same_call r t)
call_trans r s t p q = let (a, b, c) = call_e r s p in let (d, e, f) = call_e s t q in call_i r t (a ∙ d) (b ∙ e) (c ∙ f)

module _ (σ : State) (function first second representative : List ℕ) (registers n : ℕ) (w : Computed σ function first second representative registers n) where
  abbrev U : List Term
  U = reverse σ.terms

  all : oldest σ.terms n ≡ reverse σ.terms
  all = ap (oldest σ.terms) (sym w.numbered.count) ∙ oldest_all σ.terms

  term_in : (i : ℕ) → i < n → nth σ.terms i ∈ σ.terms
  term_in i h = let c = w.numbered.count in nth_in σ.terms i (omega arith)

  in_reverse : {t : Term} → t ∈ σ.terms → t ∈ reverse σ.terms
  in_reverse {t} m = let (i, l, e) = nth_of m in let c = w.numbered.count in
      subst (λ u. u ∈ reverse σ.terms) e (subst (λ l. nth σ.terms i ∈ l) all (oldest_i σ.terms n i (omega arith)))

  sub : (f : ℕ) (a b : Term) → app f a b ∈ reverse σ.terms → (a ∈ reverse σ.terms) × (b ∈ reverse σ.terms)
  sub f a b m = let (i, j) = w.valid.arguments f a b (back σ w.valid m) in (in_reverse i, in_reverse j)

  -- two terms have one value exactly if they have one representative
  pub same_value : (i j : ℕ) → i < n → j < n → entry_at representative i ≡ entry_at representative j
      → shown_value σ (nth σ.terms i) ≡ shown_value σ (nth σ.terms j)
  same_value i j h k e = number_i σ w.valid (w.exactly.sound i j h k e)

  pub same_class : (i j : ℕ) → i < n → j < n → shown_value σ (nth σ.terms i) ≡ shown_value σ (nth σ.terms j)
      → entry_at representative i ≡ entry_at representative j
  same_class i j h k e = w.exactly.complete i j h k (number_e σ w.valid (term_in i h) (term_in j k) e)

  name : Term → Term
  name = find (merges (reverse σ.terms) σ.equals)

  -- ---- values
  -- the first term of a class is equal to none before it
  first_of_class : (i : ℕ) → i < n → entry_at representative i ≡ i → (s : Term) → s ∈ oldest σ.terms i
      → ¬ Closure (reverse σ.terms) σ.equals s (nth σ.terms i)
  first_of_class i h o s m c =
      let (k, l, e) = oldest_e σ.terms i m in
      let q = w.exactly.complete k i (omega arith) h
      ((reversed σ w.valid).0 (subst (λ u. Closure (reverse σ.terms) σ.equals u (nth σ.terms i)) (sym e) c)) in
      let b = w.formed.lowest k (omega arith) in
      omega arith

  classes_are : (i : ℕ) → i ≤ n → length (firsts_after (alike (reverse σ.terms) σ.equals) [] (oldest σ.terms i)) ≡ classes_below representative i
  unfolding oldest classes_below firsts_after name
  classes_are zero h = refl
  classes_are (suc i) h = by_test (eqb (get_or representative i 0) i)
      (λ t. rw t (ap length (firsts_append same [] (oldest σ.terms i) (x ∷ []) ∙ firsts_new same C [] x (new (eqb-true (get_or representative i 0) i t)))
      ∙ length-append C (x ∷ []) ∙ add-one (length C) ∙ ap suc (classes_are i (omega arith))))
      (λ t. rw t (ap length (firsts_append same [] (oldest σ.terms i) (x ∷ []) ∙ firsts_seen same C [] x (seen (eqb-false (get_or representative i 0) i t)))
      ∙ classes_are i (omega arith)))
    where
      same : Term → Term → Bool
      same = alike (reverse σ.terms) σ.equals

      x : Term
      x = nth σ.terms i

      C : List Term
      C = firsts_after (alike (reverse σ.terms) σ.equals) [] (oldest σ.terms i)

      new : entry_at representative i ≡ i
          → ¬ T (any (alike (reverse σ.terms) σ.equals (nth σ.terms i))
          (firsts_after (alike (reverse σ.terms) σ.equals) [] (oldest σ.terms i)))
      new o y =
          let (s, m, z) = any_e (alike (reverse σ.terms) σ.equals (nth σ.terms i))
          (firsts_after (alike (reverse σ.terms) σ.equals) [] (oldest σ.terms i)) y in
          let k : s ∈ oldest σ.terms i =
          elim (firsts_in (alike (reverse σ.terms) σ.equals) [] (oldest σ.terms i) m) [ inl j ↦ absurd (Memᴰ.not-nil j) | inr j ↦ j ] in
          let (j, l, e) = oldest_e σ.terms i k in
          first_of_class i (omega arith) o s k
          (symmetric (alike_e (reverse σ.terms) σ.equals sub (in_reverse (term_in i (omega arith)))
          (subst (λ u. u ∈ reverse σ.terms) e (in_reverse (term_in j (omega arith)))) z))

      seen : entry_at representative i ≢ i
          → T (any (alike (reverse σ.terms) σ.equals (nth σ.terms i)) (firsts_after (alike (reverse σ.terms) σ.equals) [] (oldest σ.terms i)))
      seen d =
          let l = w.formed.lowest i (omega arith) in
          let r : entry_at representative i < i = omega arith in
          let c = (reversed σ w.valid).1
          (w.exactly.sound i (entry_at representative i) (omega arith) (omega arith) (sym (w.formed.own i (omega arith)))) in
          firsts_any_i (alike (reverse σ.terms) σ.equals) (λ x. eqt_refl (name x))
          (λ x y z p q. eq→eqt (name x) (name z) (eqt→eq (name x) (name y) p ∙ eqt→eq (name y) (name z) q)) (oldest σ.terms i) (nth σ.terms i)
          (any_i (alike (reverse σ.terms) σ.equals (nth σ.terms i)) (oldest_i σ.terms i (entry_at representative i) r)
          (alike_i (reverse σ.terms) σ.equals c))

  pub classes_count : length (classes_of (reverse σ.terms) σ.equals) ≡ classes_below representative n
  unfolding classes_of
  classes_count = ap (λ l. length (firsts_after (alike (reverse σ.terms) σ.equals) [] l)) (sym all) ∙ classes_are n (omega arith)

  -- the value of a computed term is the one that the arrays give
  pub value_is : (i : ℕ) → i < n → shown_value σ (nth σ.terms i) ≡ value_at representative i
  unfolding value_at
  value_is i h =
      let l = w.formed.lowest i h in
      let r : entry_at representative i < n = omega arith in
      let o = w.formed.own i h in
      let (after, e) = oldest_split σ.terms (entry_at representative i) n r in
      same_value i (entry_at representative i) h r (sym o)
      ∙ laws.number_next (reverse σ.terms) σ.equals sub (oldest σ.terms (entry_at representative i)) after (nth σ.terms (entry_at representative i))
      (sym all ∙ e) (first_of_class (entry_at representative i) r o)
      ∙ ap suc (classes_are (entry_at representative i) (omega arith))

  rows_constant : (i : ℕ) → i ≤ registers → applications (shown_value σ) (oldest σ.terms i) ≡ []
  unfolding oldest applications
  rows_constant zero h = refl
  rows_constant (suc i) h = applications_append (shown_value σ) (oldest σ.terms i) (nth σ.terms i ∷ [])
      ∙ ap (λ l. l ++ applications (shown_value σ) (nth σ.terms i ∷ [])) (rows_constant i (omega arith))
      ∙ ap (λ t. applications (shown_value σ) (t ∷ [])) (w.numbered.constant i h)

  row-of : (i : ℕ) → registers ≤ i → i < n
      → applications (shown_value σ) (nth σ.terms i ∷ []) ≡ row_at σ function first second representative registers n w i ∷ []
  unfolding row_at applications
  row-of i p h =
      let e = w.numbered.application i p h in
      ap (λ t. applications (shown_value σ) (t ∷ [])) e
      ∙ (λ k. record {
        function = entry_at function i;
        first = shown_value σ (nth σ.terms (entry_at first i));
        second =
            shown_value σ (nth σ.terms (entry_at second i));
        result = shown_value σ (sym e k);
      } ∷ [])

  rows_more : (i : ℕ) → registers ≤ i → i < n
      → applications (shown_value σ) (oldest σ.terms (suc i)) ≡ applications (shown_value σ)
      (oldest σ.terms i) ++ (row_at σ function first second representative registers n w) i ∷ []
  unfolding oldest
  rows_more i p h = applications_append (shown_value σ) (oldest σ.terms i) (nth σ.terms i ∷ [])
      ∙ ap (λ l. applications (shown_value σ) (oldest σ.terms i) ++ l) (row-of i p h)

  row_in : (m i : ℕ) → registers ≤ m → m < i → i ≤ n
      → row_at σ function first second representative registers n w m ∈ applications (shown_value σ) (oldest σ.terms i)
  row_in m zero p h l = absurd (omega arith)
  row_in m (suc i) p h l = subst (λ r. row_at σ function first second representative registers n w m ∈ r) (sym (rows_more i (omega arith) (omega arith)))
      (by_test (eqb m i)
      (λ t. Memᴰ.append_right (applications (shown_value σ) (oldest σ.terms i))
      (Memᴰ.head (ap (row_at σ function first second representative registers n w) (eqb-true m i t))))
      (λ t. let d : m ≢ i = eqb-false m i t in
      Memᴰ.append_left (row_at σ function first second representative registers n w i ∷ []) (row_in m i p (omega arith) (omega arith))))

  in_rows : (i : ℕ) → i ≤ n → {r : Row} → r ∈ applications (shown_value σ) (oldest σ.terms i)
      → (m : ℕ) × (registers ≤ m) × (m < i) × (r ≡ row_at σ function first second representative registers n w m)
  unfolding oldest applications
  in_rows zero l k = absurd (Memᴰ.not-nil k)
  in_rows (suc i) l {r} k = by_test (ltb i registers)
      (λ t. let h = ltb-true i registers t in absurd (Memᴰ.not-nil (subst (λ s. r ∈ s) (rows_constant (suc i) (omega arith)) k)))
      (λ t. let h = ltb-false i registers t in
      elim (Memᴰ.append_cases (applications (shown_value σ) (oldest σ.terms i)) (subst (λ s. r ∈ s) (rows_more i h (omega arith)) k)) [
        | inl j ↦ let (m, a, b, e) = in_rows i (omega arith) j in (m, a, omega arith, e)
        | inr j ↦ elim (Memᴰ.cases_cons j) [ inl e ↦ (i, h, omega arith, e) | inr o ↦ absurd (Memᴰ.not-nil o) ]
      ])

  -- The first r entries of `rows` are the applications that have rows, of the first i terms.
  unfoldable pub Listed : List ℕ → ℕ → ℕ → Type 0
  Listed rows r i = map (row_at σ function first second representative registers n w) (take r rows) ≡ firsts_after same_call []
      (applications (shown_value σ) (oldest σ.terms i))

  pub listed_none : (rows : List ℕ) → Listed rows 0 registers
  unfolding Listed firsts_after
  listed_none rows = sym (ap (firsts_after same_call []) (rows_constant registers (omega arith)))

  pub listed_all : (rows : List ℕ) (r i : ℕ) → i ≤ n → n ≤ i → Listed rows r i
      → map (row_at σ function first second representative registers n w) (take r rows) ≡ rows_of (reverse σ.terms) σ.equals
  unfolding Listed rows_of
  listed_all rows r i h g l = l ∙ ap (λ j. firsts_after same_call [] (applications (shown_value σ) (oldest σ.terms j))) (let q : i ≡ n = omega arith in q)
      ∙ ap (λ l. firsts_after same_call [] (applications (shown_value σ) l)) all

  -- application i has the row of an earlier one exactly if its signature was seen
  module _ (i : ℕ) (p : registers ≤ i) (h : i < n) where
    first_in : entry_at first i < n
    first_in = let b = w.numbered.first_before i p h in omega arith

    second_in : entry_at second i < n
    second_in = let b = w.numbered.second_before i p h in omega arith

    seen_row : (m : ℕ) → registers ≤ m → m < i → entry_at function m ≡ entry_at function i
        → entry_at representative (entry_at first m) ≡ entry_at representative (entry_at first i)
        → entry_at representative (entry_at second m) ≡ entry_at representative (entry_at second i)
        → T (any (same_call (row_at σ function first second representative registers n w i))
        (firsts_after same_call [] (applications (shown_value σ) (oldest σ.terms i))))
    unfolding row_at
    seen_row m a b e u v =
        let fm = w.numbered.first_before m a (omega arith) in
        let sm = w.numbered.second_before m a (omega arith) in
        firsts_any_i same_call call_refl call_trans (applications (shown_value σ) (oldest σ.terms i))
        (row_at σ function first second representative registers n w i)
        (any_i (same_call (row_at σ function first second representative registers n w i)) (row_in m i a b (omega arith))
        (call_i (row_at σ function first second representative registers n w i) (row_at σ function first second representative registers n w m) (sym e)
        (same_value (entry_at first i) (entry_at first m) first_in (omega arith) (sym u))
        (same_value (entry_at second i) (entry_at second m) second_in (omega arith) (sym v))))

    new_row : ((m : ℕ) → registers ≤ m → m < i → entry_at function m ≡ entry_at function i
        → entry_at representative (entry_at first m) ≡ entry_at representative (entry_at first i)
        → entry_at representative (entry_at second m) ≡ entry_at representative (entry_at second i) → ⊥)
        → ¬ T (any (same_call (row_at σ function first second representative registers n w i))
        (firsts_after same_call [] (applications (shown_value σ) (oldest σ.terms i))))
    unfolding row_at
    new_row none y =
        let (r, k, z) = any_e (same_call (row_at σ function first second representative registers n w i)) (applications (shown_value σ) (oldest σ.terms i))
        (firsts_any_e same_call (applications (shown_value σ) (oldest σ.terms i)) (row_at σ function first second representative registers n w i) y) in
        let (m, a, b, e) = in_rows i (omega arith) k in
        let (f, u, v) = call_e (row_at σ function first second representative registers n w i) (row_at σ function first second representative registers n w m)
        (subst (λ r. T (same_call (row_at σ function first second representative registers n w i) r)) e z) in
        let fm = w.numbered.first_before m a (omega arith) in
        let sm = w.numbered.second_before m a (omega arith) in
        none m a b (sym f) (same_class (entry_at first m) (entry_at first i) (omega arith) first_in (sym u))
        (same_class (entry_at second m) (entry_at second i) (omega arith) second_in (sym v))

    -- the rows, with that of application i where it is new
    pub listed_more : (rows : List ℕ) (r b : ℕ) → r < length rows → Listed rows r i → New representative function first second registers i b
        → Listed (set rows r i) (r + b) (i + 1)
    unfolding Listed firsts_after
    listed_more rows r b s l is = rw (add-one i)
        (go is ∙ sym (ap (firsts_after same_call []) (rows_more i p h)
        ∙ firsts_append same_call [] (applications (shown_value σ) (oldest σ.terms i)) (row_at σ function first second representative registers n w i ∷ [])))
      where
        K : List Row
        K = firsts_after same_call [] (applications (shown_value σ) (oldest σ.terms i))

        go : {b : ℕ} → New representative function first second registers i b
            → map (row_at σ function first second representative registers n w) (take (r + b) (set rows r i)) ≡ firsts_after same_call
            (firsts_after same_call [] (applications (shown_value σ) (oldest σ.terms i)))
            (row_at σ function first second representative registers n w i ∷ [])
        go (old m a c t) =
            let y : r + 0 ≡ r = omega arith in
            ap (λ j. map (row_at σ function first second representative registers n w) (take j (set rows r i))) y
            ∙ ap (map (row_at σ function first second representative registers n w)) (take-set-le r rows r i (omega arith)) ∙ l
            ∙ sym (firsts_seen same_call K [] (row_at σ function first second representative registers n w i)
            (seen_row m a c t.functions t.firsts t.seconds))
        go (new none) =
            let y : r + 1 ≡ suc r = omega arith in
            ap (λ j. map (row_at σ function first second representative registers n w) (take j (set rows r i))) y
            ∙ ap (map (row_at σ function first second representative registers n w)) (take-suc-set rows r i s)
            ∙ map-append (row_at σ function first second representative registers n w) (take r rows) (i ∷ [])
            ∙ ap (λ j. j ++ (row_at σ function first second representative registers n w) i ∷ []) l
            ∙ sym (firsts_new same_call K [] (row_at σ function first second representative registers n w i)
            (new_row λ m a c f u v. none m a c (record { functions = f; firsts = u; seconds = v })))
