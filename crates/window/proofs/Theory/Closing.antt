-- The closing of a window: classes are made one until no result is in two classes.
use mathlib.Core.Path.{◌≡◌, refl, subst}
use mathlib.Core.Logic.{◌⊎◌, inl, inr, ⊎_elim}
use mathlib.Core.List.{List}
use Prim.Native.Nat.{ℕ, zero, suc, ◌+◌, ◌*◌, ◌≤◌, ◌<◌}
use native.Mathlib.Omega.{arith}
use lib.Dec.{T, ltb}
use lib.ListN.{get_or}
use borrow.Author.Tests.{lt-ltb, le-ltb, ltb-true, ltb-false}
use Rattle.base.proofs.Theory.Choice.{by_test}
use Rattle.base.specs.Masks.{has}
use Rattle.base.specs.LeastAndSize.{least_in}
use Rattle.base.proofs.Theory.MaskLaws.{least_below, least-in}
use Rattle.semantics.proofs.Theory.Booleans.{or_not}
use Rattle.semantics.specs.View.{View}
use Rattle.semantics.proofs.Theory.Steps.{Joined, turn', join', lift'}
use Rattle.window.proofs.Theory.Bits.{truth, no_truth, none_in, nonempty_is, minus_is, less_or}
use Rattle.window.specs.Bits.{nonempty, minus}
use Rattle.window.specs.Places.{place, place_function, place_first, place_second}
use Rattle.window.proofs.Theory.Places.{first_below, second_below}
use Rattle.window.specs.Performing.{rest_of, find_of, merged_of, closed_of}
use Rattle.window.specs.Viewing.{view, Inside, Shaped}
use Rattle.window.proofs.Theory.Laws.{Laws}
use Rattle.window.proofs.Theory.Merge.{Joining, joining_more}
use Rattle.window.proofs.Theory.Merging.{merged, inside_merged}
use Rattle.window.proofs.Theory.Copying.{cell_result, result_cell}
use Rattle.window.proofs.Theory.Shape.{shaped_merged}
use Rattle.window.proofs.Theory.Total.{total, total_most, total_more}
use Rattle.window.proofs.Theory.Counted.{Counted, partition_of, counted_merges}
use Rattle.window.specs.declared.Window.{Window}

module _ (ρ φ : ℕ) where
  -- w is on the way from w₀ to its local closure by the test of x and y, which holds in it
  pub record Way (n : ℕ) (w₀ : View) (x y : ℕ) (w : Window) : Type 0 where
    pub joining : Joining n w₀ x y (view ρ φ w)
    pub inside : Inside ρ n (view ρ φ w)
    pub below : (x < n) × (y < n)
    pub tested : T ((view ρ φ w).same x y)
    pub shaped : Shaped ρ φ w

  -- no result is in two classes
  abbrev pub Stable : ℕ → Window → Type 0
  Stable n w = (f a b c d : ℕ) → a < n → b < n → c < n → d < n → T ((view ρ φ w).result f a b c) → T ((view ρ φ w).result f a b d) → T ((view ρ φ w).same c d)

  -- ---- an entry in two classes

  -- the lowest register of a mask is in it
  pub name_in : (m : ℕ) → least_in ρ m < ρ → T (has m (least_in ρ m))
  name_in m h = truth (has m (least_in ρ m)) (least-in ρ m h)

  pub name_some : (m c : ℕ) → c < ρ → T (has m c) → least_in ρ m < ρ
  name_some m c b t = ⊎_elim (λ l. l) (λ l. absurd (no_truth (has m c) (least_below ρ m c (omega arith)) t)) (less_or (least_in ρ m) ρ)

  pub rest_is : (class : List ℕ) (entry c : ℕ) → T (has (rest_of ρ φ class entry) c)
      → (least_in ρ entry < ρ) × T (has entry c) × (¬ T (has (get_or class (least_in ρ entry) 0) c))
  unfolding rest_of
  rest_is class entry c = by_test (ltb (least_in ρ entry) ρ)
      (λ t. rw t (λ k. let (p, q) = (minus_is entry (get_or class (least_in ρ entry) 0) c).0 k in (ltb-true (least_in ρ entry) ρ t, p, q)))
      (λ t. rw t (λ k. absurd (none_in c k)))

  pub rest_none : (class : List ℕ) (entry : ℕ) → ¬ T (nonempty ρ (rest_of ρ φ class entry)) → (c : ℕ) → c < ρ → T (has entry c)
      → (least_in ρ entry < ρ) × T (has (get_or class (least_in ρ entry) 0) c)
  unfolding rest_of
  rest_none class entry = by_test (ltb (least_in ρ entry) ρ)
      (λ t. rw t (λ n c b k. (
        ltb-true (least_in ρ entry) ρ t,
        ⊎_elim (λ u. u)
            (λ u. absurd (n ((nonempty_is ρ (minus entry (get_or class (least_in ρ entry) 0))).1
            (c, b, (minus_is entry (get_or class (least_in ρ entry) 0) c).1 (k, u))))) (or_not (has (get_or class (least_in ρ entry) 0) c)),
      )))
      (λ t. rw t (λ n c b k. let l = ltb-false (least_in ρ entry) ρ t in let m = name_some entry c b k in absurd (omega arith)))

  pub find_is : (class result : List ℕ) (k i : ℕ)
      → ((j : ℕ) × (j < i + k) × (find_of ρ φ class result i k ≡ get_or result j 0) × T (nonempty ρ (rest_of ρ φ class (find_of ρ φ class result i k))))
      ⊎ ((find_of ρ φ class result i k ≡ 0) × ((j : ℕ) → i ≤ j → j < i + k → ¬ T (nonempty ρ (rest_of ρ φ class (get_or result j 0)))))
  unfolding find_of
  find_is class result zero i = inr (refl, λ j h g. absurd (omega arith))
  find_is class result (suc k) i = by_test (nonempty ρ (rest_of ρ φ class (get_or result i 0)))
      (λ t. rw t (inl (i, omega arith, refl, truth (nonempty ρ (rest_of ρ φ class (get_or result i 0))) t)))
      (λ t. rw t (⊎_elim
      (λ (j, h, e, u). inl (j, omega arith, e, u))
      (λ (e, f). inr (
        e,
        λ j h g. ⊎_elim (λ l. f j l (omega arith))
            (λ l. subst (λ z. ¬ T (nonempty ρ (rest_of ρ φ class (get_or result z 0)))) (omega arith)
            (no_truth (nonempty ρ (rest_of ρ φ class (get_or result i 0))) t))
            (less_or i j),
      ))
      (find_is class result k (suc i))))

  -- ---- the way ends where no result is in two classes

  stable : (w : Window) (n : ℕ) → ((j : ℕ) → j < φ * ρ * ρ → ¬ T (nonempty ρ (rest_of ρ φ w.class (get_or w.result j 0)))) → Laws n (view ρ φ w)
      → Inside ρ n (view ρ φ w) → Stable n w
  stable w n none g i f a b c d ab bb cb db s t =
      let up : (r : ℕ) → r < n → r < ρ = (λ r l. omega (arith, i.fits)) in
      let (l, s') = result_cell ρ φ w f a b c (up a ab) (up b bb) s in
      let (_, t') = result_cell ρ φ w f a b d (up a ab) (up b bb) t in
      let entry = get_or w.result (place ρ f a b) 0 in
      let (ob, p) = rest_none w.class entry (none (place ρ f a b) l) c (up c cb) s' in
      let (_, q) = rest_none w.class entry (none (place ρ f a b) l) d (up d db) t' in
      let o = least_in ρ entry in
      let on = (i.same o c ob (up c cb) p).0 in
      g.joined c o d cb on db (g.turned o c on cb p) q

  -- two registers that hold results of the same arguments are joined
  both_joined : (n : ℕ) (w₀ : View) (x y f a b c d : ℕ)
      → ((p : ℕ) × (q : ℕ) × (e : ℕ) × (p < n) × (q < n) × (e < n) × T (w₀.result f p q e) × Joined n w₀ x y p a × Joined n w₀ x y q b × Joined n w₀ x y e c)
      → ((p : ℕ) × (q : ℕ) × (e : ℕ) × (p < n) × (q < n) × (e < n) × T (w₀.result f p q e) × Joined n w₀ x y p a × Joined n w₀ x y q b × Joined n w₀ x y e d)
      → Joined n w₀ x y c d
  both_joined n w₀ x y f a b c d (p, q, e, pb, qb, eb, r, jp, jq, je) (p', q', e', pb', qb', eb', r', jp', jq', je') =
      join' (turn' je) (join' (lift' f eb eb' r r' (join' jp (turn' jp')) (join' jq (turn' jq'))) je')

  module _ (n : ℕ) (w₀ : View) (x y : ℕ) (v : Window) (m : Way n w₀ x y v) (k one two : ℕ) (kb : k < φ * ρ * ρ) (ob : one < ρ) (tb : two < ρ)
      (s : T (has (get_or v.result k 0) one)) (t : T (has (get_or v.result k 0) two)) (other : ¬ T (has (get_or v.class one 0) two)) where
    pub way_more : Way n w₀ x y (merged_of ρ φ v one two) × (suc (total ρ v.class) ≤ total ρ (merged_of ρ φ v one two).class)
        × (Counted ρ φ v → Counted ρ φ (merged_of ρ φ v one two))
    way_more =
        let j = m.joining in
        let (ab, bb, on) = m.inside.result (place_function ρ k) (place_first ρ k) (place_second ρ k) one (first_below ρ φ k kb) (second_below ρ φ k kb) ob
        (cell_result ρ φ v k one kb s) in
        let (_, _, tn) = m.inside.result (place_function ρ k) (place_first ρ k) (place_second ρ k) two (first_below ρ φ k kb) (second_below ρ φ k kb) tb
        (cell_result ρ φ v k two kb t) in
        let joined = both_joined n w₀ x y (place_function ρ k) (place_first ρ k) (place_second ρ k) one two
        (j.result_e (place_function ρ k) (place_first ρ k) (place_second ρ k) one ab bb on (cell_result ρ φ v k one kb s))
        (j.result_e (place_function ρ k) (place_first ρ k) (place_second ρ k) two ab bb tn (cell_result ρ φ v k two kb t)) in
        let mg = merged ρ φ v m.shaped n j.laws m.inside one two on tn in
        let next = joining_more n w₀ x y (view ρ φ v) j one two on tn joined (view ρ φ (merged_of ρ φ v one two)) mg in
        let inside' = inside_merged ρ φ v m.shaped n j.laws m.inside one two on tn in (
          record {
            joining = next;
            inside = inside';
            below = m.below;
            tested = (mg.same x y m.below.0 m.below.1).1 (inl m.tested);
            shaped = shaped_merged ρ φ v one two ob m.shaped;
          },
          total_more ρ v.class (merged_of ρ φ v one two).class one two
              (λ r q rb qb u. let (rn, qn) = m.inside.same r q rb qb u in (mg.same r q rn qn).1 (inl u)) ob tb other
              ((mg.same one two on tn).1 (inr (inl (j.laws.self one on), inr (j.laws.self two tn)))),
          λ c. counted_merges ρ φ v m.shaped n (partition_of ρ φ n v j.laws m.inside) c one two on tn other
              (partition_of ρ φ n (merged_of ρ φ v one two) next.laws inside') mg.same,
        )

  -- with enough merges the closing comes to the end of the way, and the number of classes is kept
  pub closed_way : (n : ℕ) (w₀ : View) (x y fuel : ℕ) (w : Window) → Way n w₀ x y w → ρ * ρ + 1 ≤ fuel + total ρ w.class
      → Way n w₀ x y (closed_of ρ φ fuel w) × Stable n (closed_of ρ φ fuel w) × (Counted ρ φ w → Counted ρ φ (closed_of ρ φ fuel w))
  unfolding closed_of
  closed_way n w₀ x y zero w m h = absurd (omega (arith, total_most ρ w.class))
  closed_way n w₀ x y (suc fuel) w m h = ⊎_elim
      (λ (j, jb, e, u).
      let (c, cb, k) = (nonempty_is ρ (rest_of ρ φ w.class entry)).0 u in
      let tb = name_some (rest_of ρ φ w.class entry) c cb k in
      let (ob, tin, apart) = rest_is w.class entry two (name_in (rest_of ρ φ w.class entry) tb) in
      let (mw, grow, count) = way_more n w₀ x y w m j one two (omega arith) ob tb (subst (λ z. T (has z one)) e (name_in entry ob))
      (subst (λ z. T (has z two)) e tin) apart in
      let (end, quiet, counts) = closed_way n w₀ x y fuel (merged_of ρ φ w one two) mw (omega arith) in
      rw (lt-ltb one ρ ob, lt-ltb two ρ tb) (end, quiet, λ c. counts (count c)))
      (λ (e, f).
      let ob : ρ ≤ one = ⊎_elim (λ l. absurd (none_in one (subst (λ z. T (has z one)) e (name_in entry l)))) (λ l. l) (less_or one ρ) in
      rw (le-ltb one ρ ob) (m, stable w n (λ j b. f j (omega arith) (omega arith)) m.joining.laws m.inside, λ c. c))
      (find_is w.class w.result (φ * ρ * ρ) 0)
    where
      entry : ℕ
      entry = find_of ρ φ w.class w.result 0 (φ * ρ * ρ)

      one : ℕ
      one = least_in ρ (find_of ρ φ w.class w.result 0 (φ * ρ * ρ))

      two : ℕ
      two = least_in ρ (rest_of ρ φ w.class (find_of ρ φ w.class w.result 0 (φ * ρ * ρ)))
