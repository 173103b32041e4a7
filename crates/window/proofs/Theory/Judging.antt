-- The windows after an equal test and after an unequal test, register by register.
use mathlib.Core.Path.{◌≡◌, refl, sym, ap, ◌∙◌, subst}
use mathlib.Core.Logic.Iff
use mathlib.Core.Logic.{◌⊎◌, inl, inr, ◌↔◌, ⊎_elim}
use mathlib.Core.Bool.{Bool, true, false, cond, ◌&&◌, ◌||◌}
use mathlib.Core.List.{List}
use Prim.Native.Nat.{ℕ, zero, suc, ◌+◌, ◌*◌, ◌<◌}
use native.Mathlib.Omega.{arith}
use lib.Dec.{eqb, ltb, T}
use lib.Bits.{bit_and, bit_or}
use lib.ListN.{get_or, get_or-replicate}
use borrow.Author.Tests.{eqb-true, eqb-false}
use Rattle.base.proofs.Theory.Choice.{by_test}
use Rattle.base.specs.Masks.{has}
use Rattle.semantics.proofs.Theory.Booleans.{and_l, and_r, and_i, or_e, or_l, or_r}
use Rattle.semantics.proofs.Theory.Steps.{Joined, alike, test, turn', join', Equated, Separated}
use Rattle.window.specs.Places.{place}
use Rattle.window.proofs.Theory.Table.{table_at}
use Rattle.window.proofs.Theory.Bits.{truth, no_truth, none_zero, none_in, has_and, or_is, same_iff, nonempty_is}
use Rattle.window.specs.Adding.{part_of}
use Rattle.window.specs.Performing.{merged_of, closed_of, apart_of, clash_of, settled_of, parted_of, with_unequal}
use Rattle.window.specs.Viewing.{view, Inside, Shaped}
use Rattle.window.proofs.Theory.Laws.{Laws}
use Rattle.window.proofs.Theory.Merge.{joining_none, joining_more, same_joined, result_joined, ever_joined, apart_joined}
use Rattle.window.proofs.Theory.Merging.{merged, inside_merged}
use Rattle.window.proofs.Theory.Shape.{shaped_merged}
use Rattle.window.proofs.Theory.Closing.{Way, Stable, closed_way}
use Rattle.window.proofs.Theory.Counted.{Counted, partition_of, counted_merges, counted_settled}
use Rattle.window.specs.declared.Window.{Window}

part_has : (one two k s : ℕ) → T (has (part_of one two k) s) ↔ (T (has one k) × T (has two s))
unfolding part_of
part_has one two k s = by_test (has one k)
    (λ t. rw t ((λ u. (tt, u)), (λ (_, u). u)))
    (λ t. rw t ((λ u. absurd (none_in s u)), (λ (p, _). absurd p)))

module _ (ρ φ : ℕ) where
  -- ---- a window made infeasible where it is bad

  pub record SettledWindow (w : Window) (bad : Bool) (r : Window) : Type 0 where
    pub class : r.class ≡ w.class
    pub result : r.result ≡ w.result
    pub ever : r.ever ≡ w.ever
    pub mark : r.mark ≡ w.mark
    pub infeasible : r.infeasible ≡ (w.infeasible || bad)
    pub unequal : (k : ℕ) → k < ρ → get_or r.unequal k 0 ≡ cond (w.infeasible || bad) 0 (get_or w.unequal k 0)

  pub settled_is : (w : Window) (bad : Bool) → SettledWindow w bad (settled_of ρ φ w bad)
  unfolding settled_of
  settled_is w bad = by_test (w.infeasible || bad)
      (λ t. rw t (record {
        class = refl;
        result = refl;
        ever = refl;
        mark = refl;
        infeasible = sym t;
        unequal =
            λ k b. get_or-replicate ρ k 0 0 b ∙ ap (λ z. cond z 0 (get_or w.unequal k 0)) (sym t);
      }))
      (λ t. rw t (record {
        class = refl;
        result = refl;
        ever = refl;
        mark = refl;
        infeasible = none w.infeasible bad t ∙ sym t;
        unequal =
            λ k b. ap (λ z. cond z 0 (get_or w.unequal k 0)) (sym t);
      }))
    where
      none : (a b : Bool) → (a || b) ≡ false → a ≡ false
      none true b e = e
      none false b e = refl

  module _ (w : Window) (bad : Bool) (r : Window) (e : SettledWindow w bad r) where
    same_settled : (a b : ℕ) → T ((view ρ φ r).same a b) ↔ T ((view ρ φ w).same a b)
    same_settled a b = same_iff (ap (λ l. has (get_or l a 0) b) e.class)

    result_settled : (f a b c : ℕ) → T ((view ρ φ r).result f a b c) ↔ T ((view ρ φ w).result f a b c)
    result_settled f a b c = same_iff (ap (λ l. ltb f φ && has (get_or l (place ρ f a b) 0) c) e.result)

    ever_settled : (f a b : ℕ) → T ((view ρ φ r).ever f a b) ↔ T ((view ρ φ w).ever f a b)
    ever_settled f a b = same_iff (ap (λ l. ltb f φ && has (get_or l (ρ * f + a) 0) b) e.ever)

    marked_settled : (a : ℕ) → T ((view ρ φ r).marked a) ↔ T ((view ρ φ w).marked a)
    marked_settled a = same_iff (ap (λ l. get_or l a false) e.mark)

    infeasible_settled : T (view ρ φ r).infeasible ↔ (T w.infeasible ⊎ T bad)
    infeasible_settled = (
      (λ t. or_e w.infeasible bad (subst T e.infeasible t)),
      (λ k. subst T (sym e.infeasible) (⊎_elim (or_l w.infeasible bad) (or_r w.infeasible bad) k)),
    )

    apart_settled : (a b : ℕ) → a < ρ → T ((view ρ φ r).apart a b) ↔ ((¬ T (view ρ φ r).infeasible) × T ((view ρ φ w).apart a b))
    apart_settled a b ab = by_test (w.infeasible || bad)
        (λ t. (
          (λ k. absurd (no_truth (has 0 b) (none_zero b) (subst (λ m. T (has m b)) (e.unequal a ab ∙ rw t) k))),
          (λ (n, k). absurd (n (truth (view ρ φ r).infeasible (e.infeasible ∙ t)))),
        ))
        (λ t. let i = same_iff (ap (λ m. has m b) (e.unequal a ab ∙ rw t)) in
        ((λ k. ((λ u. no_truth (view ρ φ r).infeasible (e.infeasible ∙ t) u), i.0 k)), (λ (n, k). i.1 k)))

    pub inside_settled : (n : ℕ) → Inside ρ n (view ρ φ w) → Inside ρ n (view ρ φ r)
    inside_settled n i = record {
      fits = i.fits;
      same = λ a b ab bb t. i.same a b ab bb ((same_settled a b).0 t);
      apart = λ a b ab bb t. i.apart a b ab bb ((apart_settled a b ab).0 t).1;
      result = λ f a b c ab bb cb t. i.result f a b c ab bb cb ((result_settled f a b c).0 t);
      ever = λ f a b ab bb t. i.ever f a b ab bb ((ever_settled f a b).0 t);
      marked = λ a ab t. i.marked a ab ((marked_settled a).0 t);
    }

  -- ---- two registers of one class that are known unequal

  apart_is : (unequal : List ℕ) (a others : ℕ) → T (apart_of ρ φ unequal a others) ↔ ((c : ℕ) × (c < ρ) × T (has (get_or unequal a 0) c) × T (has others c))
  unfolding apart_of
  apart_is unequal a others = Iff.trans (nonempty_is ρ (bit_and (get_or unequal a 0) others)) (
    (λ (c, b, t). let u = subst T (has_and (get_or unequal a 0) others c) t in
        (c, b, and_l (has (get_or unequal a 0) c) (has others c) u, and_r (has (get_or unequal a 0) c) (has others c) u)),
    (λ (c, b, p, q). (c, b, subst T (sym (has_and (get_or unequal a 0) others c)) (and_i (has (get_or unequal a 0) c) (has others c) p q))),
  )

  pub clash_is : (class unequal : List ℕ) (k : ℕ)
      → T (clash_of ρ φ class unequal k) ↔ ((r : ℕ) × (s : ℕ) × (r < k) × (s < ρ) × T (has (get_or class r 0) s) × T (has (get_or unequal r 0) s))
  unfolding clash_of
  clash_is class unequal zero = ((λ t. absurd t), (λ (r, s, h, _, _, _). absurd (omega arith)))
  clash_is class unequal (suc k) = (
    (λ t. ⊎_elim (λ u. let (r, s, h, b, p, q) = (clash_is class unequal k).0 u in (r, s, omega arith, b, p, q))
        (λ u. let (s, b, q, p) = (apart_is unequal k (get_or class k 0)).0 u in (k, s, omega arith, b, p, q))
        (or_e (clash_of ρ φ class unequal k) (apart_of ρ φ unequal k (get_or class k 0)) t)),
    (λ (r, s, h, b, p, q). by_test (eqb r k)
        (λ e. let z = eqb-true r k e in or_r (clash_of ρ φ class unequal k) (apart_of ρ φ unequal k (get_or class k 0))
        ((apart_is unequal k (get_or class k 0)).1 (s, b, subst (λ i. T (has (get_or unequal i 0) s)) z q, subst (λ i. T (has (get_or class i 0) s)) z p)))
        (λ e. let d = eqb-false r k e in
        or_l (clash_of ρ φ class unequal k) (apart_of ρ φ unequal k (get_or class k 0)) ((clash_is class unequal k).1 (r, s, omega arith, b, p, q)))),
  )

  -- ---- an equal test

  module _ (w : Window) (sh : Shaped ρ φ w) (n : ℕ) (g : Laws n (view ρ φ w)) (i : Inside ρ n (view ρ φ w)) (x y : ℕ) (xb : x < n) (yb : y < n) where
    low : (k : ℕ) → k < n → k < ρ
    low k b = omega (arith, i.fits)

    start : Way ρ φ n (view ρ φ w) x y (merged_of ρ φ w x y)
    start = let m = merged ρ φ w sh n g i x y xb yb in record {
      joining = joining_more n (view ρ φ w) x y (view ρ φ w) (joining_none n (view ρ φ w) x y g) x y xb yb test (view ρ φ (merged_of ρ φ w x y)) m;
      inside = inside_merged ρ φ w sh n g i x y xb yb;
      below = (xb, yb);
      tested = (m.same x y xb yb).1 (inr (inl (g.self x xb), inr (g.self y yb)));
      shaped = shaped_merged ρ φ w x y (low x xb) sh;
    }

    abbrev v : Window
    v = closed_of ρ φ (ρ * ρ + 1) (merged_of ρ φ w x y)

    way : Way ρ φ n (view ρ φ w) x y (closed_of ρ φ (ρ * ρ + 1) (merged_of ρ φ w x y))
    way = (closed_way ρ φ n (view ρ φ w) x y (ρ * ρ + 1) (merged_of ρ φ w x y) start (omega arith)).0

    pub steady : Stable ρ φ n (closed_of ρ φ (ρ * ρ + 1) (merged_of ρ φ w x y))
    steady = (closed_way ρ φ n (view ρ φ w) x y (ρ * ρ + 1) (merged_of ρ φ w x y) start (omega arith)).1

    same_next : (a b : ℕ) → a < n → b < n → T ((view ρ φ v).same a b) ↔ Joined n (view ρ φ w) x y a b
    same_next = same_joined n (view ρ φ w) x y xb yb (view ρ φ v) way.joining way.tested steady

    apart_next : (a b : ℕ) → a < n → b < n
        → T ((view ρ φ v).apart a b) ↔ ((p : ℕ) × (q : ℕ) × (p < n) × (q < n) × T ((view ρ φ w).apart p q) × Joined n (view ρ φ w) x y p a
        × Joined n (view ρ φ w) x y q b)
    apart_next = apart_joined n (view ρ φ w) x y xb yb (view ρ φ v) way.joining way.tested steady

    abbrev bad : Bool
    bad = clash_of ρ φ (closed_of ρ φ (ρ * ρ + 1) (merged_of ρ φ w x y)).class (closed_of ρ φ (ρ * ρ + 1) (merged_of ρ φ w x y)).unequal ρ

    bad_is : T bad ↔ ((p : ℕ) × (q : ℕ) × (p < n) × (q < n) × T ((view ρ φ w).apart p q) × Joined n (view ρ φ w) x y p q)
    bad_is = Iff.trans (clash_is v.class v.unequal ρ) (
      (λ (a, b, ab, bb, s, u).
          let (an, bn) = way.inside.same a b ab bb s in
          let (p, q, pb, qb, h, j, k) = (apart_next a b an bn).0 u in
          (p, q, pb, qb, h, join' j (join' ((same_next a b an bn).0 s) (turn' k)))),
      (λ (p, q, pb, qb, h, j). (
        p,
        q,
        low p pb,
        low q qb,
        (same_next p q pb qb).1 j,
        (apart_next p q pb qb).1
            (p, q, pb, qb, h, alike pb pb (g.self p pb), alike qb qb (g.self q qb)),
      )),
    )

    abbrev r : Window
    r = settled_of ρ φ v bad

    e : SettledWindow (closed_of ρ φ (ρ * ρ + 1) (merged_of ρ φ w x y)) bad (settled_of ρ φ (closed_of ρ φ (ρ * ρ + 1) (merged_of ρ φ w x y)) bad)
    e = settled_is v bad

    pub equated : Equated n (view ρ φ w) x y (view ρ φ r)
    equated = record {
      same = λ a b ab bb. Iff.trans (same_settled v bad r e a b) (same_next a b ab bb);
      result = λ f a b c ab bb cb. Iff.trans (result_settled v bad r e f a b c)
          (result_joined n (view ρ φ w) x y xb yb (view ρ φ v) way.joining way.tested steady f a b c ab bb cb);
      ever = λ f a b ab bb. Iff.trans (ever_settled v bad r e f a b)
          (ever_joined n (view ρ φ w) x y xb yb (view ρ φ v) way.joining way.tested steady f a b ab bb);
      marked = λ a ab. Iff.trans (marked_settled v bad r e a) (way.joining.marked a ab);
      infeasible = Iff.trans (infeasible_settled v bad r e) (
        (λ k. ⊎_elim (λ t. inl (way.joining.infeasible.0 t)) (λ t. inr (bad_is.0 t)) k),
        (λ k. ⊎_elim (λ t. inl (way.joining.infeasible.1 t)) (λ t. inr (bad_is.1 t)) k),
      );
      apart = λ a b ab bb. Iff.trans (apart_settled v bad r e a b (low a ab))
          ((λ (p, k). (p, (apart_next a b ab bb).0 k)), (λ (p, k). (p, (apart_next a b ab bb).1 k)));
    }

    pub inside_equated : Inside ρ n (view ρ φ r)
    inside_equated = inside_settled v bad r e n way.inside

    -- the number of classes is kept, where the sides were of two classes
    pub counted_equated : ¬ T ((view ρ φ w).same x y) → Counted ρ φ w → Counted ρ φ r
    counted_equated d c = counted_settled ρ φ v bad
        ((closed_way ρ φ n (view ρ φ w) x y (ρ * ρ + 1) (merged_of ρ φ w x y) start (omega arith)).2
        (counted_merges ρ φ w sh n (partition_of ρ φ n w g i) c x y xb yb d
        (partition_of ρ φ n (merged_of ρ φ w x y) start.joining.laws start.inside) (merged ρ φ w sh n g i x y xb yb).same))

  -- ---- an unequal test

  module _ (w : Window) (n : ℕ) (i : Inside ρ n (view ρ φ w)) (x y : ℕ) (xb : x < n) (yb : y < n) where
    abbrev pairs : List ℕ
    pairs = parted_of ρ φ w.unequal (get_or w.class x 0) (get_or w.class y 0)

    abbrev v' : Window
    v' = with_unequal w (parted_of ρ φ w.unequal (get_or w.class x 0) (get_or w.class y 0)) w.infeasible

    low' : (k : ℕ) → k < n → k < ρ
    low' k b = omega (arith, i.fits)

    pairs_is : (a b : ℕ) → a < ρ → T (has (get_or pairs a 0) b)
        ↔ (T ((view ρ φ w).apart a b) ⊎ ((T ((view ρ φ w).same x a) × T ((view ρ φ w).same y b)) ⊎ (T ((view ρ φ w).same y a) × T ((view ρ φ w).same x b))))
    unfolding parted_of
    pairs_is a b ab =
        let cx = get_or w.class x 0 in
        let cy = get_or w.class y 0 in
        let u = get_or w.unequal a 0 in
        let e = table_at (λ r. bit_or (bit_or (get_or w.unequal r 0) (part_of cx cy r)) (part_of cy cx r)) ρ a 0 ab in
        Iff.trans (same_iff (ap (λ m. has m b) e)) (Iff.trans (or_is (bit_or u (part_of cx cy a)) (part_of cy cx a) b) (
          (λ t. ⊎_elim (λ k. ⊎_elim inl (λ l. inr (inl ((part_has cx cy a b).0 l))) ((or_is u (part_of cx cy a) b).0 k))
              (λ k. inr (inr ((part_has cy cx a b).0 k))) t),
          (λ k. ⊎_elim (λ l. inl ((or_is u (part_of cx cy a) b).1 (inl l)))
              (⊎_elim (λ l. inl ((or_is u (part_of cx cy a) b).1 (inr ((part_has cx cy a b).1 l)))) (λ l. inr ((part_has cy cx a b).1 l))) k),
        ))

    abbrev apart_bad : Bool
    apart_bad = has (get_or w.class x 0) y

    abbrev r' : Window
    r' = settled_of ρ φ v' apart_bad

    e' : SettledWindow (with_unequal w (parted_of ρ φ w.unequal (get_or w.class x 0) (get_or w.class y 0)) w.infeasible) (has (get_or w.class x 0) y)
        (settled_of ρ φ v' apart_bad)
    e' = settled_is v' apart_bad

    pub separated : Separated n (view ρ φ w) x y (view ρ φ r')
    separated =
        let bad = has (get_or w.class x 0) y in
        record {
          same = λ a b ab bb. same_settled v' bad r' e' a b;
          result = λ f a b c ab bb cb. result_settled v' bad r' e' f a b c;
          ever = λ f a b ab bb. ever_settled v' bad r' e' f a b;
          marked = λ a ab. marked_settled v' bad r' e' a;
          infeasible = infeasible_settled v' bad r' e';
          apart = λ a b ab bb. Iff.trans (apart_settled v' bad r' e' a b (low' a ab))
              ((λ (p, k). (p, (pairs_is a b (low' a ab)).0 k)), (λ (p, k). (p, (pairs_is a b (low' a ab)).1 k)));
        }

    pub inside_separated : Inside ρ n (view ρ φ r')
    inside_separated = inside_settled v' (has (get_or w.class x 0) y) r' e' n (record {
      fits = i.fits;
      same = i.same;
      apart = λ a b ab bb t. ⊎_elim (λ k. i.apart a b ab bb k) (⊎_elim
          (λ (p, q). ((i.same x a (low' x xb) ab p).1, (i.same y b (low' y yb) bb q).1))
          (λ (p, q). ((i.same y a (low' y yb) ab p).1, (i.same x b (low' x xb) bb q).1))) ((pairs_is a b ab).0 t);
      result = i.result;
      ever = i.ever;
      marked = i.marked;
    })
