-- The numbering of the shown model is the one that document 01 describes, and there is no other; so are its rows.
use mathlib.Core.Path.{◌≡◌, refl, sym, ◌∙◌, ap, subst}
use mathlib.Core.Logic.{inl, inr}
use mathlib.Core.Bool.{true, false, ◌&&◌}
use mathlib.Core.List.Memᴰ
use mathlib.Core.List.{List, [], ◌∷◌, ◌++◌, append-nil, append_assoc}
use Prim.Native.Nat.{ℕ, zero, suc, ◌-◌, ◌≤◌, ◌<◌}
use native.Mathlib.Omega.{arith}
use lib.Dec.{T, eqb, eqb→eq}
use lib.ListN.{length}
use borrow.Author.Tests.{eq-eqb}
use Rattle.base.proofs.Theory.Choice.{by_test}
use Rattle.semantics.specs.Terms.{◌∈◌, Term, con, app}
use Rattle.semantics.proofs.Theory.Booleans.{and_l, and_r, of_true, of_false}
use Rattle.semantics.specs.Lists.{any}
use Rattle.semantics.proofs.Theory.Lists.{any_e, any_i, end_split, split_at, two_splits}
use Rattle.semantics.specs.TermEquality.{eqt}
use Rattle.semantics.proofs.Theory.TermEquality.{eqt→eq, eqt_refl, eq→eqt}
use Rattle.semantics.specs.Closure.{Closure, symmetric}
use Rattle.semantics.specs.Decide.{find, merges, alike}
use Rattle.semantics.proofs.Theory.Decide.{alike_i, alike_e}
use Rattle.semantics.specs.Firsts.{firsts_after, first_place}
use Rattle.semantics.proofs.Theory.FirstsLaws.{place_first, place_in, place_both, firsts_append, firsts_seen, firsts_new, firsts_extends, firsts_all}
use Rattle.semantics.proofs.Theory.FirstsLaws.{NoRepeats, firsts_distinct, none_repeats, no_repeats_more, firsts_in, place_below}
use Rattle.semantics.specs.Tables.{Row, row_of}
use Rattle.semantics.specs.ShownTables.{same_call, applications, classes_of, class_value}
use Rattle.semantics.specs.Numbering.{Filled, Numbering, RowListing}

module _ (U : List Term) (E : List (Term × Term)) where
  pub number_below : (t : Term) → class_value U E t < suc (length (classes_of U E))
  unfolding class_value
  number_below t = omega (arith, place_below (alike U E t) 1 (classes_of U E) (omega arith))

module _ (U : List Term) (E : List (Term × Term)) where
  abbrev name : Term → Term
  name = find (merges U E)

  alike_refl : (t : Term) → T (alike U E t t)
  alike_refl t = eqt_refl (name t)

  alike_name : (s t : Term) → T (alike U E s t) → name s ≡ name t
  alike_name s t y = eqt→eq (name s) (name t) y

  number_name : (s t : Term) → name s ≡ name t → class_value U E s ≡ class_value U E t
  unfolding class_value
  number_name s t e = ap (λ n. first_place (λ u. eqt n (name u)) 1 (classes_of U E)) e

  -- terms that are equal in the closure have one value
  pub number_i : {s t : Term} → Closure U E s t → class_value U E s ≡ class_value U E t
  number_i {s} {t} c = number_name s t (alike_name s t (alike_i U E c))

  -- the classes of a beginning of the terms, and what follows
  beginning : (before after : List Term) → U ≡ before ++ after → (rest : List Term) × (classes_of U E ≡ firsts_after (alike U E) [] before ++ rest)
  unfolding classes_of
  beginning before after e =
      let (r, q) = firsts_extends (alike U E) (firsts_after (alike U E) [] before) after in
      (r, ap (firsts_after (alike U E) []) e ∙ firsts_append (alike U E) [] before after ∙ q)

  -- the terms of a beginning have the values 1 to the count of its classes
  filled : (before after : List Term) → U ≡ before ++ after → Filled (class_value U E) before (length (firsts_after (alike U E) [] before))
  unfolding class_value
  filled before after e k = (into, out)
    where
      C : List Term
      C = firsts_after (alike U E) [] before

      rest : List Term
      rest = (beginning before after e).0

      are : classes_of U E ≡ firsts_after (alike U E) [] before ++ rest
      are = (beginning before after e).1

      into : (1 ≤ k) × (k ≤ length (firsts_after (alike U E) [] before)) → (t : Term) × (t ∈ before) × (first_place (alike U E t) 1 (classes_of U E) ≡ k)
      into (a, b) =
          let (pre, x, post, q, n) = split_at C (k - 1) (omega arith) in
          let m : x ∈ C = subst (λ l. x ∈ l) (sym q) (Memᴰ.append_right pre (Memᴰ.head refl)) in (
            x,
            elim (firsts_in (alike U E) [] before m) [ inl i ↦ absurd (Memᴰ.not-nil i) | inr i ↦ i ],
            ap (first_place (alike U E x) 1) (are ∙ ap (λ l. l ++ rest) q ∙ append_assoc pre (x ∷ post) rest)
                ∙ place_first (alike U E x) 1 pre (post ++ rest) x (firsts_distinct (alike U E) [] before (none_repeats (alike U E)) pre post x q)
                (alike_refl x) ∙ omega arith,
          )

      out : (t : Term) × (t ∈ before) × (first_place (alike U E t) 1 (classes_of U E) ≡ k) → (1 ≤ k) × (k ≤ length (firsts_after (alike U E) [] before))
      out (t, m, q) =
          let h = place_in (alike U E t) 1 C rest (firsts_all (alike U E) alike_refl [] before m) in
          let g : first_place (alike U E t) 1 (C ++ rest) ≡ k = ap (first_place (alike U E t) 1) (sym are) ∙ q in
          (omega arith, omega arith)

  module _ (sub : (f : ℕ) (a b : Term) → app f a b ∈ U → (a ∈ U) × (b ∈ U)) where
    -- computed terms of one value are equal in the closure
    pub number_e : {s t : Term} → s ∈ U → t ∈ U → class_value U E s ≡ class_value U E t → Closure U E s t
    unfolding class_value classes_of
    number_e {s} {t} i j e =
        let (x, p, q) = place_both (alike U E s) (alike U E t) 1 (classes_of U E) (firsts_all (alike U E) alike_refl [] U i)
        (firsts_all (alike U E) alike_refl [] U j) e in
        alike_e U E sub i j (eq→eqt (name s) (name t) (alike_name s x p ∙ sym (alike_name t x q)))

    -- the first term of a class has the next value
    pub number_next : (before after : List Term) (t : Term) → U ≡ before ++ t ∷ after → ((s : Term) → s ∈ before → ¬ Closure U E s t)
        → class_value U E t ≡ suc (length (firsts_after (alike U E) [] before))
    unfolding class_value classes_of
    number_next before after t e n =
        let C = firsts_after (alike U E) [] before in
        let new : ¬ T (any (alike U E t) C) = λ y.
        let (s, m, z) = any_e (alike U E t) C y in
        let i = elim (firsts_in (alike U E) [] before m) as (λ _. s ∈ before) [ inl k ↦ absurd (Memᴰ.not-nil k) | inr k ↦ k ] in
        n s i (alike_e U E sub (subst (λ l. s ∈ l) (sym e) (Memᴰ.append_left (t ∷ after) i))
        (subst (λ l. t ∈ l) (sym e) (Memᴰ.append_right before (Memᴰ.head refl)))
        (eq→eqt (name s) (name t) (sym (alike_name t s z)))) in
        let (r, q) = firsts_extends (alike U E) (C ++ t ∷ []) after in
        let are : classes_of U E ≡ C ++ t ∷ r = whole before after t e new ∙ q ∙ append_assoc C (t ∷ []) r in
        ap (first_place (alike U E t) 1) are ∙ place_first (alike U E t) 1 C r t new (alike_refl t) ∙ omega arith
      where
        whole : (before after : List Term) (t : Term) → U ≡ before ++ t ∷ after → ¬ T (any (alike U E t) (firsts_after (alike U E) [] before))
            → classes_of U E ≡ firsts_after (alike U E) (firsts_after (alike U E) [] before ++ t ∷ []) after
        whole before after t e new =
            ap (firsts_after (alike U E) []) e ∙ firsts_append (alike U E) [] before (t ∷ after) ∙ firsts_new (alike U E)
            (firsts_after (alike U E) [] before) after t new

    -- ── it is the numbering of document 01 ──
    pub numbering : Numbering U E (class_value U E) (length (classes_of U E))
    unfolding classes_of
    numbering = record {
      equal = λ s t i j. (number_e i j, number_i);
      all = filled U [] (sym (append-nil U));
      next = λ before after t e n. (length (firsts_after (alike U E) [] before), number_next before after t e n, filled before (t ∷ after) e);
    }

    -- ── and there is no other ──
    agree_filled : (v w : Term → ℕ) (l : List Term) (j k : ℕ) → ((t : Term) → t ∈ l → v t ≡ w t) → Filled v l j → Filled w l k → j ≤ k
    agree_filled v w l zero k e h g = omega arith
    agree_filled v w l (suc j) k e h g = let (t, m, q) = (h (suc j)).0 (omega arith, omega arith) in ((g (suc j)).1 (t, m, sym (e t m) ∙ q)).1

    same_count : (v w : Term → ℕ) (l : List Term) (j k : ℕ) → ((t : Term) → t ∈ l → v t ≡ w t) → Filled v l j → Filled w l k → j ≡ k
    same_count v w l j k e h g = omega (arith, agree_filled v w l j k e h g, agree_filled w v l k j (λ t m. sym (e t m)) g h)

    module _ (v w : Term → ℕ) (c d : ℕ) (h : Numbering U E v c) (g : Numbering U E w d) where
      one_more : (before after : List Term) (t : Term) → U ≡ before ++ t ∷ after → ((s : Term) → s ∈ before → v s ≡ w s) → v t ≡ w t
      one_more before after t e a = by_test (any (alike U E t) before) again first
        where
          old : {s : Term} → s ∈ before → s ∈ U
          old {s} m = subst (λ l. s ∈ l) (sym e) (Memᴰ.append_left (t ∷ after) m)

          here : t ∈ U
          here = subst (λ l. t ∈ l) (sym e) (Memᴰ.append_right before (Memᴰ.head refl))

          again : any (alike U E t) before ≡ true → v t ≡ w t
          again y =
              let (s, m, z) = any_e (alike U E t) before (of_true y) in
              let q = alike_e U E sub here (old m) z in
              (h.equal t s here (old m)).1 q ∙ a s m ∙ sym ((g.equal t s here (old m)).1 q)

          first : any (alike U E t) before ≡ false → v t ≡ w t
          first y =
              let n : (s : Term) → s ∈ before → ¬ Closure U E s t = λ s m q. of_false y (any_i (alike U E t) m (alike_i U E (symmetric q))) in
              let (j, p, f) = h.next before after t e n in
              let (k, q, r) = g.next before after t e n in
              p ∙ ap suc (same_count v w before j k a f r) ∙ sym q

      agrees : (before after : List Term) → U ≡ before ++ after → ((s : Term) → s ∈ before → v s ≡ w s) → (s : Term) → s ∈ after → v s ≡ w s
      agrees before [] e a s m = absurd (Memᴰ.not-nil m)
      agrees before (t ∷ after) e a s m = elim (Memᴰ.cases_cons m) [
        | inl q ↦ ap v q ∙ one_more before after t e a ∙ sym (ap w q)
        | inr k ↦ agrees (before ++ t ∷ []) after (e ∙ sym (append_assoc before (t ∷ []) after))
            (λ u n. elim (Memᴰ.append_cases before n) [
              | inl i ↦ a u i
              | inr i ↦ elim (Memᴰ.cases_cons i) [
                | inl q ↦ ap v q ∙ one_more before after t e a ∙ sym (ap w q)
                | inr o ↦ absurd (Memᴰ.not-nil o)
              ]
            ]) s k
      ]

      pub numbering_unique : ((t : Term) → t ∈ U → v t ≡ w t) × (c ≡ d)
      numbering_unique =
          let a = agrees [] U refl (λ s m. absurd (Memᴰ.not-nil m)) in
          (a, same_count v w U c d a h.all g.all)

-- ── the rows ──
pub call_i : (r s : Row) → r.function ≡ s.function → r.first ≡ s.first → r.second ≡ s.second → T (same_call r s)
call_i r s e u v = rw (eq-eqb r.function s.function e, eq-eqb r.first s.first u, eq-eqb r.second s.second v) tt

pub call_e : (r s : Row) → T (same_call r s) → (r.function ≡ s.function) × (r.first ≡ s.first) × (r.second ≡ s.second)
call_e r s y =
    let a = eqb r.first s.first in
    let b = eqb r.second s.second in
    let f = eqb r.function s.function in
    let z = and_r f (a && b) y in (
      eqb→eq r.function s.function (and_l f (a && b) y),
      eqb→eq r.first s.first (and_l a b z),
      eqb→eq r.second s.second (and_r a b z),
    )

-- no row has the function and the arguments of one before it, by the test
no_repeats : (v : Term → ℕ) {U : List Term} {rows : List Row} → RowListing U v rows → NoRepeats same_call rows
no_repeats v {rows = rows} h earlier later r e y =
    let (q, m, z) = any_e (same_call r) earlier y in
    let (f, a, b) = call_e r q z in
    h.distinct earlier later r e q m (sym f, sym a, sym b)

row_path : {f g a b c d p q : ℕ} → f ≡ g → a ≡ c → b ≡ d → p ≡ q
    → ◌≡◌ {A = Row} (record { function = f; first = a; second = b; result = p }) (record { function = g; first = c; second = d; result = q })
row_path e h i j = λ k. record { function = e k; first = h k; second = i k; result = j k }

con_app : {r f : ℕ} {s t : Term} → app f s t ≡ con r → ⊥
con_app e = let z : ◌≡◌ {A = ℕ} 0 1 = cc in omega arith

module _ (v : Term → ℕ) where
  -- one more term, whose row, if it is an application, is there
  listing_old : (before : List Term) (rows : List Row) (x : Term) → RowListing before v rows
      → ((f : ℕ) (s t : Term) → app f s t ≡ x → row_of v f s t ∈ rows)
      → RowListing (before ++ x ∷ []) v rows
  listing_old before rows x h there = record {
    computed = λ r m. let (f, s, t, i, e) = h.computed r m in (f, s, t, Memᴰ.append_left (x ∷ []) i, e);
    complete = λ f s t m. elim (Memᴰ.append_cases before m) [
      | inl i ↦ h.complete f s t i
      | inr i ↦ elim (Memᴰ.cases_cons i) [ inl e ↦ there f s t e | inr o ↦ absurd (Memᴰ.not-nil o) ]
    ];
    distinct = h.distinct;
    ordered = λ earlier later r e.
        let (b, a, f, s, t, q, p, g) = h.ordered earlier later r e in
        (b, a ++ x ∷ [], f, s, t, ap (λ l. l ++ x ∷ []) q ∙ append_assoc b (app f s t ∷ a) (x ∷ []), p, g);
  }

  -- one more application, whose row is not there
  listing_new : (before : List Term) (rows : List Row) (f : ℕ) (s t : Term) → RowListing before v rows → ¬ T (any (same_call (row_of v f s t)) rows)
      → RowListing (before ++ app f s t ∷ []) v (rows ++ row_of v f s t ∷ [])
  listing_new before rows f s t h n = record {
    computed = λ r m. elim (Memᴰ.append_cases rows m) [
      | inl i ↦ let (g, u, w, j, e) = h.computed r i in (g, u, w, Memᴰ.append_left (app f s t ∷ []) j, e)
      | inr i ↦ elim (Memᴰ.cases_cons i)
          [ inl e ↦ (f, s, t, Memᴰ.append_right before (Memᴰ.head refl), e) | inr o ↦ absurd (Memᴰ.not-nil o) ]
    ];
    complete = λ g u w m. elim (Memᴰ.append_cases before m) [
      | inl i ↦ Memᴰ.append_left (row_of v f s t ∷ []) (h.complete g u w i)
      | inr i ↦ elim (Memᴰ.cases_cons i) [
        | inl e ↦ Memᴰ.append_right rows (Memᴰ.head (same g u w e))
        | inr o ↦ absurd (Memᴰ.not-nil o)
      ]
    ];
    distinct = λ earlier later r e q m (g, a, b). no_repeats_more same_call rows (row_of v f s t) (no_repeats v h) n earlier later r e
        (any_i (same_call r) m (call_i r q (sym g) (sym a) (sym b)));
    ordered = λ earlier later r e. elim (end_split rows earlier later (row_of v f s t) r e) [
      | inl k ↦
          let (b, a, g, u, w, q, p, o) = h.ordered earlier k.0 r k.1 in
          (b, a ++ app f s t ∷ [], g, u, w, ap (λ l. l ++ app f s t ∷ []) q ∙ append_assoc b (app g u w ∷ a) (app f s t ∷ []), p, o)
      | inr k ↦ (before, [], f, s, t, refl, k.1, λ g u w m. subst (λ l. row_of v g u w ∈ l) (sym k.0) (h.complete g u w m))
    ];
  }
    where
      same : (g : ℕ) (u w : Term) → app g u w ≡ app f s t → row_of v g u w ≡ row_of v f s t
      same g u w e =
          let a : u ≡ s = cc in
          let b : w ≡ t = cc in
          row_path (cc) (ap v a) (ap v b) (ap v e)

  module _ (U : List Term)
      (functional : (f : ℕ) (s t u w : Term) → app f s t ∈ U → app f u w ∈ U → v s ≡ v u → v t ≡ v w → v (app f s t) ≡ v (app f u w)) where
    -- an application whose call is listed has its row there
    listed_call : (before after : List Term) (rows : List Row) (f : ℕ) (s t : Term) → U ≡ before ++ app f s t ∷ after → RowListing before v rows
        → T (any (same_call (row_of v f s t)) rows)
        → row_of v f s t ∈ rows
    listed_call before after rows f s t e h y =
        let (r, m, z) = any_e (same_call (row_of v f s t)) rows y in
        let (g, u, w, i, q) = h.computed r m in
        let (a, b, c) = call_e (row_of v f s t) (row_of v g u w) (subst (λ k. T (same_call (row_of v f s t) k)) q z) in
        let j : app g u w ∈ U = subst (λ l. app g u w ∈ l) (sym e) (Memᴰ.append_left (app f s t ∷ after) i) in
        let k : app f s t ∈ U = subst (λ l. app f s t ∈ l) (sym e) (Memᴰ.append_right before (Memᴰ.head refl)) in
        let k' : app g s t ∈ U = subst (λ n. app n s t ∈ U) a k in
        let p : v (app f s t) ≡ v (app g u w) = ap (λ n. v (app n s t)) a ∙ functional g s t u w k' j b c in
        Memᴰ.cast (row_path a b c p ∙ sym q) m

    listing_from : (before after : List Term) (rows : List Row) → U ≡ before ++ after → RowListing before v rows
        → RowListing (before ++ after) v (firsts_after same_call rows (applications v after))
    unfolding applications firsts_after
    listing_from before [] rows e h = subst (λ l. RowListing l v rows) (sym (append-nil before)) h
    listing_from before (con r ∷ after) rows e h =
        subst (λ l. RowListing l v (firsts_after same_call rows (applications v after))) (append_assoc before (con r ∷ []) after)
        (listing_from (before ++ con r ∷ []) after rows (e ∙ sym (append_assoc before (con r ∷ []) after))
        (listing_old before rows (con r) h (λ f s t q. absurd (con_app q))))
    listing_from before (app f s t ∷ after) rows e h = by_test (any (same_call (row_of v f s t)) rows)
        (λ y. subst (λ k. RowListing (before ++ app f s t ∷ after) v k) (sym (firsts_seen same_call rows (applications v after) (row_of v f s t) (of_true y)))
        (moved rows (listing_from (before ++ app f s t ∷ []) after rows (sym')
        (listing_old before rows (app f s t) h (λ g u w q. there g u w q (listed_call before after rows f s t e h (of_true y)))))))
        (λ y. subst (λ k. RowListing (before ++ app f s t ∷ after) v k) (sym (firsts_new same_call rows (applications v after) (row_of v f s t) (of_false y)))
        (moved (rows ++ row_of v f s t ∷ [])
        (listing_from (before ++ app f s t ∷ []) after (rows ++ row_of v f s t ∷ []) (sym') (listing_new before rows f s t h (of_false y)))))
      where
        sym' : U ≡ before ++ app f s t ∷ [] ++ after
        sym' = e ∙ sym (append_assoc before (app f s t ∷ []) after)

        moved : (k : List Row) → RowListing (before ++ app f s t ∷ [] ++ after) v (firsts_after same_call k (applications v after))
            → RowListing (before ++ app f s t ∷ after) v (firsts_after same_call k (applications v after))
        moved k h = subst (λ l. RowListing l v (firsts_after same_call k (applications v after))) (append_assoc before (app f s t ∷ []) after) h

        there : (g : ℕ) (u w : Term) → app g u w ≡ app f s t → row_of v f s t ∈ rows → row_of v g u w ∈ rows
        there g u w q m =
            let a : u ≡ s = cc in
            let b : w ≡ t = cc in
            Memᴰ.cast (row_path (cc) (ap v a) (ap v b) (ap v q)) m

    pub listing : RowListing U v (firsts_after same_call [] (applications v U))
    listing = listing_from [] U [] refl (record {
      computed = λ r m. absurd (Memᴰ.not-nil m);
      complete = λ f s t m. absurd (Memᴰ.not-nil m);
      distinct = λ earlier later r e q m s. nil_split earlier later r e;
      ordered = λ earlier later r e. absurd (nil_split earlier later r e);
    })
      where
        nil_split : (pre post : List Row) (r : Row) → [] ≡ pre ++ r ∷ post → ⊥
        nil_split [] post r e = let z : ◌≡◌ {A = ℕ} 0 1 = cc in omega arith
        nil_split (x ∷ pre) post r e = let z : ◌≡◌ {A = ℕ} 0 1 = cc in omega arith

-- ── and there are no other rows ──
module _ (U : List Term) (v : Term → ℕ) where
  -- a row is not among those before it
  not_before : {rows : List Row} → RowListing U v rows → (earlier later : List Row) (r : Row) → rows ≡ earlier ++ r ∷ later → ¬ (r ∈ earlier)
  not_before h earlier later r e m = h.distinct earlier later r e r m (refl, refl, refl)

  -- rows that go on where others end are not rows
  no_more : {rows more : List Row} → RowListing U v rows → RowListing U v more → (later : List Row) (r : Row) → more ≡ rows ++ r ∷ later → ⊥
  no_more {rows} h g later r e =
      let (b, a, f, s, t, q, p, o) = g.ordered rows later r e in
      not_before g rows later r e (Memᴰ.cast p (h.complete f s t (subst (λ l. app f s t ∈ l) (sym q) (Memᴰ.append_right b (Memᴰ.head refl)))))

  -- rows that agree so far have the same next row
  next_row : {rows other : List Row} → RowListing U v rows → RowListing U v other → (earlier l m : List Row) (r s : Row) → rows ≡ earlier ++ r ∷ l
      → other ≡ earlier ++ s ∷ m
      → r ≡ s
  next_row h g earlier l m r s e d =
      let (b, a, f, t, u, q, p, o) = h.ordered earlier l r e in
      let (b', a', f', t', u', q', p', o') = g.ordered earlier m s d in
      elim (two_splits b b' a a' (app f t u) (app f' t' u') (sym q ∙ q')) [
        | inl k ↦ p ∙ same f t u f' t' u' k.1 ∙ sym p'
        | inr k ↦ elim k [
          | inl i ↦ absurd (not_before h earlier l r e (Memᴰ.cast p (o' f t u i)))
          | inr i ↦ absurd (not_before g earlier m s d (Memᴰ.cast p' (o f' t' u' i)))
        ]
      ]
    where
      same : (f : ℕ) (t u : Term) (g : ℕ) (x y : Term) → app f t u ≡ app g x y → row_of v f t u ≡ row_of v g x y
      same f t u g x y e =
          let c : t ≡ x = cc in
          let d : u ≡ y = cc in
          row_path (cc) (ap v c) (ap v d) (ap v e)

  module _ (rows other : List Row) (h : RowListing U v rows) (g : RowListing U v other) where
    agree_from : (earlier l m : List Row) → rows ≡ earlier ++ l → other ≡ earlier ++ m → l ≡ m
    agree_from earlier [] [] e d = refl
    agree_from earlier [] (s ∷ m) e d = absurd (no_more h g m s (d ∙ ap (λ k. k ++ s ∷ m) (sym (e ∙ append-nil earlier))))
    agree_from earlier (r ∷ l) [] e d = absurd (no_more g h l r (e ∙ ap (λ k. k ++ r ∷ l) (sym (d ∙ append-nil earlier))))
    agree_from earlier (r ∷ l) (s ∷ m) e d =
        let q = next_row h g earlier l m r s e d in
        let rest = agree_from (earlier ++ r ∷ []) l m (e ∙ sym (append_assoc earlier (r ∷ []) l))
        (d ∙ ap (λ k. earlier ++ k ∷ m) (sym q) ∙ sym (append_assoc earlier (r ∷ []) m)) in
        λ i. q i ∷ rest i

    pub listing_unique : rows ≡ other
    listing_unique = agree_from [] rows other refl refl
