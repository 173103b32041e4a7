-- The window after a copy, register by register: what the code makes is what Renamed asks.
use mathlib.Core.Path.{◌≡◌, refl, sym, ap, ◌∙◌, subst}
use mathlib.Core.Logic.Iff
use mathlib.Core.Logic.{◌⊎◌, inl, inr, ◌↔◌, ◌≢◌, ⊎_elim}
use mathlib.Core.Bool.{Bool, true, false, cond, ◌||◌}
use mathlib.Core.List.{List}
use Prim.Native.Nat.{ℕ, ◌+◌, ◌*◌, ◌^◌, ◌<◌}
use native.Mathlib.Omega.{arith}
use lib.Dec.{eqb, ltb, T, ltb→lt}
use lib.ListN.{length, get_or, set}
use lib.Seq.{get_or-set_same, get_or-set_other}
use borrow.Author.Tests.{eqb-true, eqb-false, ltb-true, lt-ltb, eq-eqb, ne_eqb}
use Rattle.base.proofs.Theory.Choice.{by_test}
use Rattle.base.specs.Masks.{has}
use Rattle.base.specs.LeastAndSize.{size_of}
use Rattle.semantics.proofs.Theory.Booleans.{and_l, and_r, or_e, or_l, or_r}
use Rattle.semantics.proofs.Theory.Steps.{copied, Renamed, Bared', Over', at', above', Still'}
use Rattle.semantics.specs.View.{View}
use Rattle.window.proofs.Theory.Places as places
use Rattle.window.specs.Places.{place, place_function, place_first, place_second}
use Rattle.window.proofs.Theory.Places.{place_is, first_place, second_place, place_below, function_below, entry_below}
use Rattle.window.proofs.Theory.Table.{table_at, table_length}
use Rattle.window.proofs.Theory.Bits.{no_truth, none_zero, none_small, none_in, same_iff, eq_or}
use Rattle.window.proofs.Theory.Marks.{Beneath, extra, direct, beneath, lost_beneath}
use Rattle.window.specs.Marks.{marked_with}
use Rattle.window.specs.Through.{masks_through}
use Rattle.window.proofs.Theory.Read.{Pick, masks_is, results_is, pick_copied}
use Rattle.window.specs.Performing.{fallen_of, copied_tables}
use Rattle.window.specs.Viewing.{view, Inside, Shaped}
use Rattle.window.proofs.Theory.Laws.{Laws, Sound}
use Rattle.window.proofs.Theory.Size.{alone, other}
use Rattle.window.specs.declared.Window.{Window}

pub copied_same : (x y : ℕ) → copied x y x ≡ y
copied_same x y = rw (eq-eqb x x refl)

pub copied_other : (x y r : ℕ) → r ≢ x → copied x y r ≡ r
copied_other x y r n = rw (ne_eqb r x n)

-- ---- a copy within a class moves nothing

module _ (w : View) (n : ℕ) (g : Laws n w) (s : Sound n w) (x y : ℕ) (xb : x < n) (yb : y < n) (e : T (w.same x y)) where
  near : (r : ℕ) → r < n → T (w.same r (copied x y r))
  near r rb = ⊎_elim (λ p. subst (λ k. T (w.same k (copied x y k))) (sym p) (subst (λ k. T (w.same x k)) (sym (copied_same x y)) e))
      (λ p. subst (λ k. T (w.same r k)) (sym (copied_other x y r p)) (g.self r rb)) (eq_or r x)

  copied_below : (r : ℕ) → r < n → copied x y r < n
  copied_below r rb = elim (eqb r x) as (λ k. cond k y r < n) [ true ↦ yb | false ↦ rb ]

  near' : (r : ℕ) → r < n → T (w.same (copied x y r) r)
  near' r rb = g.turned r (copied x y r) rb (copied_below r rb) (near r rb)

  still_here : (q : ℕ) → q < n → Still' n w (copied x y) n q
  still_here q qb = (q, qb, near q qb)

  pub renamed_within : Renamed n w (copied x y) n w
  renamed_within = record {
    same = λ r q rb qb. (
      (λ t. g.joined (copied x y r) q (copied x y q) (cb r rb) qb (cb q qb) (g.joined (copied x y r) r q (cb r rb) rb qb (near' r rb) t) (near q qb)),
      (λ t. g.joined r (copied x y q) q rb (cb q qb) qb (g.joined r (copied x y r) (copied x y q) rb (cb r rb) (cb q qb) (near r rb) t) (near' q qb)),
    );
    apart = λ r q rb qb. (
      (λ t. g.apart r q (copied x y r) (copied x y q) rb qb (cb r rb) (cb q qb) t (near r rb) (near q qb)),
      (λ t. g.apart (copied x y r) (copied x y q) r q (cb r rb) (cb q qb) rb qb t (near' r rb) (near' q qb)),
    );
    result = λ f a b c ab bb cc. (
      (λ t. g.result f a b c (copied x y a) (copied x y b) (copied x y c) ab bb cc (cb a ab) (cb b bb) (cb c cc) t (near a ab) (near b bb) (near c cc)),
      (λ t. g.result f (copied x y a) (copied x y b) (copied x y c) a b c (cb a ab) (cb b bb) (cb c cc) ab bb cc t (near' a ab) (near' b bb) (near' c cc)),
    );
    ever = λ f a b ab bb. (
      (λ t. g.ever f a b (copied x y a) (copied x y b) ab bb (cb a ab) (cb b bb) t (near a ab) (near b bb)),
      (λ t. g.ever f (copied x y a) (copied x y b) a b (cb a ab) (cb b bb) ab bb t (near' a ab) (near' b bb)),
    );
    marked = λ r rb. (
      (λ t. inl (s.marked r (copied x y r) rb (cb r rb) t (near r rb))),
      (λ k. ⊎_elim (λ t. s.marked (copied x y r) r (cb r rb) rb t (near' r rb))
          (λ b. absurd (b.lost (still_here b.to b.to_below, still_here b.first b.first_below, still_here b.second b.second_below))) k),
    );
    infeasible = ((λ t. t), (λ t. t));
  }
    where
      cb : (r : ℕ) → r < n → copied x y r < n
      cb = copied_below

-- ---- the tables of a layout

module _ (ρ φ : ℕ) where
  module _ (w : Window) where
    pub cell_result : (k c : ℕ) → k < φ * ρ * ρ → T (has (get_or w.result k 0) c)
        → T ((view ρ φ w).result (place_function ρ k) (place_first ρ k) (place_second ρ k) c)
    cell_result k c b t = rw (lt-ltb (place_function ρ k) φ (function_below ρ φ k b), place_is ρ k) t

    pub result_cell : (f a b c : ℕ) → a < ρ → b < ρ → T ((view ρ φ w).result f a b c)
        → (place ρ f a b < φ * ρ * ρ) × T (has (get_or w.result (place ρ f a b) 0) c)
    result_cell f a b c ab bb t =
        let l = ltb→lt f φ (and_l (ltb f φ) (has (get_or w.result (place ρ f a b) 0) c) t) in
        (place_below ρ f a b ab bb φ l, and_r (ltb f φ) (has (get_or w.result (place ρ f a b) 0) c) t)

  -- the registers that get a mark as x loses its value
  pub fallen_is : (class : ℕ) (l : List ℕ) (x more : ℕ) → x < ρ → more < 2 ^ ρ → (h : ℕ)
      → T (has (fallen_of ρ φ class l x more) h) ↔ ((size_of ρ class ≡ 1) × Beneath ρ φ l x more h)
  unfolding fallen_of
  fallen_is class l x more xb mb h = by_test (eqb (size_of ρ class) 1)
      (λ t. rw t ((λ k. (eqb-true (size_of ρ class) 1 t, (lost_beneath ρ φ l x more xb mb h).0 k)), (λ (_, k). (lost_beneath ρ φ l x more xb mb h).1 k)))
      (λ t. rw t ((λ k. absurd (none_in h k)), (λ (e, _). absurd (eqb-false (size_of ρ class) 1 t e))))

  pub marked_at : (l : List Bool) (s r : ℕ) → r < ρ → get_or (marked_with ρ l s) r false ≡ (get_or l r false || has s r)
  unfolding marked_with
  marked_at l s r h = table_at (λ i. get_or l i false || has s i) ρ r false h

  pub marked_length : (l : List Bool) (s : ℕ) → length (marked_with ρ l s) ≡ ρ
  unfolding marked_with
  marked_length l s = table_length (λ i. get_or l i false || has s i) ρ

  module _ (w : Window) (n : ℕ) (g : Laws n (view ρ φ w)) (i : Inside ρ n (view ρ φ w)) (x : ℕ) (xb : x < n) where
    up : (r : ℕ) → r < n → r < ρ
    up r b = omega (arith, i.fits)

    -- the entry at arguments equal to those of an entry
    recell : (k c a b : ℕ) → k < φ * ρ * ρ → c < ρ → T (has (get_or w.result k 0) c) → a < n → b < n → T ((view ρ φ w).same (place_first ρ k) a)
        → T ((view ρ φ w).same (place_second ρ k) b)
        → (j : ℕ) × (j < φ * ρ * ρ) × T (has (get_or w.result j 0) c) × (place_first ρ j ≡ a) × (place_second ρ j ≡ b)
    recell k c a b kb cb t ab bb p q =
        let m = cell_result w k c kb t in
        let (ab₀, bb₀, cc) = i.result (place_function ρ k) (place_first ρ k) (place_second ρ k) c (places.first_below ρ φ k kb)
        (places.second_below ρ φ k kb) cb m in
        let m' = g.result (place_function ρ k) (place_first ρ k) (place_second ρ k) c a b c ab₀ bb₀ cc ab bb cc m p q (g.self c cc) in
        let (l, t') = result_cell w (place_function ρ k) a b c (up a ab) (up b bb) m' in (
          place ρ (place_function ρ k) a b,
          l,
          t',
          first_place ρ (place_function ρ k) a b (up a ab) (up b bb),
          second_place ρ (place_function ρ k) a b (up a ab)
              (up b bb),
        )

    pub first_below : (k c : ℕ) → k < φ * ρ * ρ → c < ρ → T (has (get_or w.result k 0) c) → (place_first ρ k < n) × (place_second ρ k < n) × (c < n)
    first_below k c kb cb t = i.result (place_function ρ k) (place_first ρ k) (place_second ρ k) c (places.first_below ρ φ k kb)
        (places.second_below ρ φ k kb) cb
        (cell_result w k c kb t)

    module _ (one : size_of ρ (get_or w.class x 0) ≡ 1) where
      pub only : (j : ℕ) → j < n → T ((view ρ φ w).same x j) → j ≡ x
      only j b t = alone ρ (get_or w.class x 0) x (up x xb) (g.self x xb) one j (up j b) t

      module _ (more : ℕ) (closed : (q s : ℕ) → q < n → s < n → T ((view ρ φ w).same q s) → T (has more s) → T (has more q)) where
        -- a register equal to one beneath a lost class
        beneath_same : {q s : ℕ} → q < n → s < n → T ((view ρ φ w).same q s) → Beneath ρ φ w.result x more s → Beneath ρ φ w.result x more q
        beneath_same {q} {s} qb sb e (extra t) = extra (closed q s qb sb e t)
        beneath_same {q} {s} qb sb e (direct k {c} kb cb t d (inl p)) =
            let (ab, bb, cc) = first_below k c kb cb t in
            let u = subst (λ z. T ((view ρ φ w).same z q)) p (g.turned q s qb sb e) in
            let (j, l, t', v, v') = recell k c q (place_second ρ k) kb cb t qb bb u (g.self (place_second ρ k) bb) in
            direct j l cb t' (⊎_elim (λ h. inl (v ∙ only q qb (subst (λ z. T ((view ρ φ w).same z q)) h u)))
            (⊎_elim (λ h. inr (inl (v' ∙ h))) (λ h. inr (inr h))) d) (inl (sym v))
        beneath_same {q} {s} qb sb e (direct k {c} kb cb t d (inr p)) =
            let (ab, bb, cc) = first_below k c kb cb t in
            let u = subst (λ z. T ((view ρ φ w).same z q)) p (g.turned q s qb sb e) in
            let (j, l, t', v, v') = recell k c (place_first ρ k) q kb cb t ab qb (g.self (place_first ρ k) ab) u in
            direct j l cb t' (⊎_elim (λ h. inl (v ∙ h))
            (⊎_elim (λ h. inr (inl (v' ∙ only q qb (subst (λ z. T ((view ρ φ w).same z q)) h u)))) (λ h. inr (inr h))) d) (inr (sym v'))
        beneath_same {q} {s} qb sb e (beneath k {c} kb cb t o (inl p)) =
            let (ab, bb, cc) = first_below k c kb cb t in
            let (j, l, t', v, v') = recell k c q (place_second ρ k) kb cb t qb bb (subst (λ z. T ((view ρ φ w).same z q)) p (g.turned q s qb sb e))
            (g.self (place_second ρ k) bb) in
            beneath j l cb t' o (inl (sym v))
        beneath_same {q} {s} qb sb e (beneath k {c} kb cb t o (inr p)) =
            let (ab, bb, cc) = first_below k c kb cb t in
            let (j, l, t', v, v') = recell k c (place_first ρ k) q kb cb t ab qb (g.self (place_first ρ k) ab)
            (subst (λ z. T ((view ρ φ w).same z q)) p (g.turned q s qb sb e)) in
            beneath j l cb t' o (inr (sym v'))

        -- down a way of results
        pub beneath_over : {q s : ℕ} → q < n → Over' n (view ρ φ w) q s → Beneath ρ φ w.result x more s → Beneath ρ φ w.result x more q
        beneath_over {q} {s} qb (at' sb e) b = beneath_same qb sb e b
        beneath_over {q} {s} qb (above' f {a} {b} {c} {u} ab bb cb sb o e m d) h =
            let (l, t) = result_cell w f a b c (up a ab) (up b bb) m in
            let h' = beneath_same cb sb d h in
            beneath_over qb o (⊎_elim
            (λ k. beneath_same (i.same u a (ub o) (up a ab) k).0 ab k
            (beneath (place ρ f a b) l (up c cb) t h' (inl (sym (first_place ρ f a b (up a ab) (up b bb))))))
            (λ k. beneath_same (i.same u b (ub o) (up b bb) k).0 bb k
            (beneath (place ρ f a b) l (up c cb) t h' (inr (sym (second_place ρ f a b (up a ab) (up b bb))))))
            e)
          where
            ub : {q u : ℕ} → Over' n (view ρ φ w) q u → u < ρ
            ub (at' sb e) = up _ sb
            ub (above' f ab bb cb sb o e m d) = up _ sb

    -- up by one result
    over_up : {q : ℕ} (k c : ℕ) {s : ℕ} → k < φ * ρ * ρ → c < ρ → T (has (get_or w.result k 0) c) → q < n → (q ≡ place_first ρ k) ⊎ (q ≡ place_second ρ k)
        → Over' n (view ρ φ w) c s → Over' n (view ρ φ w) q s
    over_up {q} k c kb cb t qb e (at' sb d) =
        let (ab, bb, cc) = first_below k c kb cb t in
        above' (place_function ρ k) ab bb cc sb (at' qb (g.self q qb))
        (⊎_elim (λ p. inl (subst (λ z. T ((view ρ φ w).same q z)) p (g.self q qb))) (λ p. inr (subst (λ z. T ((view ρ φ w).same q z)) p (g.self q qb))) e)
        (cell_result w k c kb t) d
    over_up k c kb cb t qb e (above' f ab bb cb' sb o d m h) = above' f ab bb cb' sb (over_up k c kb cb t qb e o) d m h

    beneath_below : {q : ℕ} → Beneath ρ φ w.result x 0 q → q < n
    beneath_below {q} (extra t) = absurd (no_truth (has 0 q) (none_zero q) t)
    beneath_below (direct k {c} kb cb t d e) = let (ab, bb, cc) = first_below k c kb cb t in
        ⊎_elim (λ p. subst (λ z. z < n) (sym p) ab) (λ p. subst (λ z. z < n) (sym p) bb) e
    beneath_below (beneath k {c} kb cb t o e) = let (ab, bb, cc) = first_below k c kb cb t in
        ⊎_elim (λ p. subst (λ z. z < n) (sym p) ab) (λ p. subst (λ z. z < n) (sym p) bb) e

    module _ (y : ℕ) (yb : y < n) where
      still_other : (q : ℕ) → q < n → q ≢ x → Still' n (view ρ φ w) (copied x y) n q
      still_other q qb d = (q, qb, subst (λ z. T ((view ρ φ w).same q z)) (sym (copied_other x y q d)) (g.self q qb))

      still_all : ((j : ℕ) × (j < n) × T ((view ρ φ w).same x (copied x y j))) → (q : ℕ) → q < n → Still' n (view ρ φ w) (copied x y) n q
      still_all f q qb = ⊎_elim (λ p. subst (Still' n (view ρ φ w) (copied x y) n) (sym p) f) (still_other q qb) (eq_or q x)

      not_still : size_of ρ (get_or w.class x 0) ≡ 1 → x ≢ y → ¬ Still' n (view ρ φ w) (copied x y) n x
      not_still one d (r, rb, t) = ⊎_elim
          (λ p. d (sym (only one y yb (subst (λ z. T ((view ρ φ w).same x z)) (ap (copied x y) p ∙ copied_same x y) t))))
          (λ p. p (only one r rb (subst (λ z. T ((view ρ φ w).same x z)) (copied_other x y r p) t)))
          (eq_or r x)

      bared_i : size_of ρ (get_or w.class x 0) ≡ 1 → x ≢ y → {q : ℕ} → q < n → Beneath ρ φ w.result x 0 q → Bared' n (view ρ φ w) (copied x y) n q
      bared_i one d {q} qb (extra t) = absurd (no_truth (has 0 q) (none_zero q) t)
      bared_i one d {q} qb (direct k {c} kb cb t h e) =
          let (ab, bb, cc) = first_below k c kb cb t in
          let no = not_still one d in
          record {
            function = place_function ρ k;
            first = place_first ρ k;
            second = place_second ρ k;
            to = c;
            first_below = ab;
            second_below = bb;
            to_below = cc;
            holds = cell_result w k c kb t;
            over = ⊎_elim (λ p. inl (at' ab (subst (λ z. T ((view ρ φ w).same q z)) p (g.self q qb))))
                (λ p. inr (at' bb (subst (λ z. T ((view ρ φ w).same q z)) p (g.self q qb)))) e;
            lost = λ (s, s', s''). ⊎_elim
                (λ p. no (subst (Still' n (view ρ φ w) (copied x y) n) p s'))
                (⊎_elim (λ p. no (subst (Still' n (view ρ φ w) (copied x y) n) p s'')) (λ p. no (subst (Still' n (view ρ φ w) (copied x y) n) p s))) h;
          }
      bared_i one d {q} qb (beneath k {c} kb cb t o e) =
          let (ab, bb, cc) = first_below k c kb cb t in
          let b = bared_i one d cc o in
          record {
            function = b.function;
            first = b.first;
            second = b.second;
            to = b.to;
            first_below = b.first_below;
            second_below = b.second_below;
            to_below = b.to_below;
            holds = b.holds;
            over = ⊎_elim (λ v. inl (over_up k c kb cb t qb e v)) (λ v. inr (over_up k c kb cb t qb e v)) b.over;
            lost = b.lost;
          }

      bared_e : (q : ℕ) → q < n → Bared' n (view ρ φ w) (copied x y) n q → (x ≡ y → ⊥) × (size_of ρ (get_or w.class x 0) ≡ 1) × Beneath ρ φ w.result x 0 q
      bared_e q qb b = (
        d,
        one,
        ⊎_elim (λ v. beneath_over one 0 (λ q s qb sb e t. absurd (no_truth (has 0 s) (none_zero s) t)) qb v beneaths.0)
            (λ v. beneath_over one 0 (λ q s qb sb e t. absurd (no_truth (has 0 s) (none_zero s) t)) qb v beneaths.1) b.over,
      )
        where
          whole : ((j : ℕ) × (j < n) × T ((view ρ φ w).same x (copied x y j))) → ⊥
          whole f = b.lost (still_all f b.to b.to_below, still_all f b.first b.first_below, still_all f b.second b.second_below)

          d : x ≡ y → ⊥
          d p = whole (x, xb, subst (λ z. T ((view ρ φ w).same x z)) (p ∙ sym (copied_same x y)) (g.self x xb))

          one : size_of ρ (get_or w.class x 0) ≡ 1
          one = ⊎_elim (λ p. p)
              (λ p. let (j, jb, n', t) = other ρ (get_or w.class x 0) x (up x xb) (g.self x xb) p in
              absurd (whole (j, (i.same x j (up x xb) jb t).1, subst (λ z. T ((view ρ φ w).same x z)) (sym (copied_other x y j n')) t)))
              (eq_or (size_of ρ (get_or w.class x 0)) 1)

          named : (b.first ≡ x) ⊎ ((b.second ≡ x) ⊎ (b.to ≡ x))
          named = ⊎_elim inl (λ p. inr (⊎_elim inl (λ q. inr (⊎_elim (λ r. r)
              (λ r. absurd (b.lost (
                still_other b.to b.to_below r,
                still_other b.first b.first_below p,
                still_other b.second
                    b.second_below q,
              )))
              (eq_or b.to x))) (eq_or b.second x))) (eq_or b.first x)

          beneaths : Beneath ρ φ w.result x 0 b.first × Beneath ρ φ w.result x 0 b.second
          beneaths =
              let ab = up b.first b.first_below in
              let bb = up b.second b.second_below in
              let (l, t) = result_cell w b.function b.first b.second b.to ab bb b.holds in
              let p = first_place ρ b.function b.first b.second ab bb in
              let p' = second_place ρ b.function b.first b.second ab bb in
              let h = ⊎_elim (λ k. inl (p ∙ k)) (⊎_elim (λ k. inr (inl (p' ∙ k))) (λ k. inr (inr k))) named in (
                direct (place ρ b.function b.first b.second) l (up b.to b.to_below) t h (inl (sym p)),
                direct
                    (place ρ b.function b.first b.second) l (up b.to b.to_below) t h (inr (sym p')),
              )

  -- ---- the tables of a copy

  module _ (w : Window) (sh : Shaped ρ φ w) (x y : ℕ) (xb : x < ρ) (yb : y < ρ) where
    abbrev w' : Window
    w' = copied_tables ρ φ w x y

    picked : (r z : ℕ) → Pick ρ φ y y (2 ^ x) yb yb r z → z ≡ copied x y r
    picked r z = (pick_copied ρ φ x y xb yb r z).0

    pick : (r : ℕ) → Pick ρ φ y y (2 ^ x) yb yb r (copied x y r)
    pick r = (pick_copied ρ φ x y xb yb r (copied x y r)).1 refl

    -- a table of masks read through the copy
    table_copied : (l : List ℕ) (j r s : ℕ) → r < ρ → ρ * j + r < length l
        → T (has (get_or (masks_through ρ y y (2 ^ x) l) (ρ * j + r) 0) s) ↔ T (has (get_or l (ρ * j + copied x y r) 0) (copied x y s))
    table_copied l j r s rb h = Iff.trans (masks_is ρ φ y y (2 ^ x) yb yb l j r s rb h) (
      (λ (z, u, p, q, t). subst (λ k. T (has (get_or l (ρ * j + k) 0) (copied x y s))) (picked r z p)
          (subst (λ k. T (has (get_or l (ρ * j + z) 0) k)) (picked s u q) t)),
      (λ t. (copied x y r, copied x y s, pick r, pick s, t)),
    )

    row_copied : (l : List ℕ) (r s : ℕ) → length l ≡ ρ → r < ρ
        → T (has (get_or (masks_through ρ y y (2 ^ x) l) r 0) s) ↔ T (has (get_or l (copied x y r) 0) (copied x y s))
    row_copied l r s e rb =
        subst (λ k. T (has (get_or (masks_through ρ y y (2 ^ x) l) k 0) s) ↔ T (has (get_or l (copied x y r) 0) (copied x y s))) (omega arith)
        (subst (λ k. T (has (get_or (masks_through ρ y y (2 ^ x) l) (ρ * 0 + r) 0) s) ↔ T (has (get_or l k 0) (copied x y s))) (omega arith)
        (table_copied l 0 r s rb (omega arith)))

    pub same_copied : (r s : ℕ) → r < ρ → T ((view ρ φ w').same r s) ↔ T ((view ρ φ w).same (copied x y r) (copied x y s))
    unfolding copied_tables
    same_copied r s rb = row_copied w.class r s sh.class rb

    pub apart_copied : (r s : ℕ) → r < ρ → T ((view ρ φ w').apart r s) ↔ T ((view ρ φ w).apart (copied x y r) (copied x y s))
    unfolding copied_tables
    apart_copied r s rb = row_copied w.unequal r s sh.unequal rb

    pub result_copied : (f a b c : ℕ) → a < ρ → b < ρ → T ((view ρ φ w').result f a b c) ↔ T ((view ρ φ w).result f (copied x y a) (copied x y b)
        (copied x y c))
    unfolding copied_tables
    result_copied f a b c ab bb = by_test (ltb f φ)
        (λ u. rw u (Iff.trans (results_is ρ φ y y (2 ^ x) yb yb w.result sh.result f a b c (ltb-true f φ u) ab bb) (
          (λ (z, v, d, p, q, o, t). subst (λ k. T (has (get_or w.result (place ρ f k (copied x y b)) 0) (copied x y c))) (picked a z p)
              (subst (λ k. T (has (get_or w.result (place ρ f z k) 0) (copied x y c))) (picked b v q)
              (subst (λ k. T (has (get_or w.result (place ρ f z v) 0) k)) (picked c d o) t))),
          (λ t. (copied x y a, copied x y b, copied x y c, pick a, pick b, pick c, t)),
        )))
        (λ u. rw u ((λ k. k), (λ k. k)))

    pub ever_copied : (f a b : ℕ) → a < ρ → b < ρ → T ((view ρ φ w').ever f a b) ↔ T ((view ρ φ w).ever f (copied x y a) (copied x y b))
    unfolding copied_tables
    ever_copied f a b ab bb = by_test (ltb f φ)
        (λ u. let l = ltb-true f φ u in rw u (table_copied w.ever f a b ab (subst (λ z. ρ * f + a < z) (sym sh.ever) (entry_below ρ φ f a l ab))))
        (λ u. rw u ((λ k. k), (λ k. k)))

    abbrev fallen : ℕ
    fallen = fallen_of ρ φ (get_or w.class x 0) w.result x 0

    pub marked_copied : (r : ℕ) → r < ρ → (view ρ φ w').marked r ≡ ((view ρ φ w).marked (copied x y r) || has fallen (copied x y r))
    unfolding copied_tables
    marked_copied r rb = ⊎_elim
        (λ e. subst (λ k. get_or (set (marked_with ρ w.mark fallen) x (get_or (marked_with ρ w.mark fallen) y false)) k false
        ≡ ((view ρ φ w).marked (copied x y k) || has fallen (copied x y k))) (sym e)
        (get_or-set_same (marked_with ρ w.mark fallen) x (get_or (marked_with ρ w.mark fallen) y false) false (rw (marked_length w.mark fallen) xb)
        ∙ marked_at w.mark fallen y yb ∙ sym (ap (λ k. (view ρ φ w).marked k || has fallen k) (copied_same x y))))
        (λ d. get_or-set_other (marked_with ρ w.mark fallen) x r (get_or (marked_with ρ w.mark fallen) y false) false d ∙ marked_at w.mark fallen r rb
        ∙ sym (ap (λ k. (view ρ φ w).marked k || has fallen k) (copied_other x y r d)))
        (eq_or r x)

  copied_infeasible : (w : Window) (x y : ℕ) → (copied_tables ρ φ w x y).infeasible ≡ w.infeasible
  unfolding copied_tables
  copied_infeasible w x y = refl

  module _ (w : Window) (sh : Shaped ρ φ w) (n : ℕ) (g : Laws n (view ρ φ w)) (i : Inside ρ n (view ρ φ w)) (x y : ℕ) (xb : x < n) (yb : y < n)
      (d : x ≢ y) where
    low : (r : ℕ) → r < n → r < ρ
    low r b = omega (arith, i.fits)

    abbrev v' : Window
    v' = copied_tables ρ φ w x y

    source : (r : ℕ) → r < ρ → copied x y r < ρ
    source r b = elim (eqb r x) as (λ k. cond k y r < ρ) [ true ↦ low y yb | false ↦ b ]

    back : (r : ℕ) → copied x y r < n → r < n
    back r b = ⊎_elim (λ p. subst (λ z. z < n) (sym p) xb) (λ p. subst (λ z. z < n) (copied_other x y r p) b) (eq_or r x)

    abbrev F : ℕ
    F = fallen_of ρ φ (get_or w.class x 0) w.result x 0

    fall : (h : ℕ) → T (has (fallen_of ρ φ (get_or w.class x 0) w.result x 0) h) ↔ ((size_of ρ (get_or w.class x 0) ≡ 1) × Beneath ρ φ w.result x 0 h)
    fall = fallen_is (get_or w.class x 0) w.result x 0 (low x xb) (none_small ρ)

    pub renamed_copied : Renamed n (view ρ φ w) (copied x y) n (view ρ φ v')
    renamed_copied = record {
      same = λ r s rb sb. same_copied w sh x y (low x xb) (low y yb) r s (low r rb);
      apart = λ r s rb sb. apart_copied w sh x y (low x xb) (low y yb) r s (low r rb);
      result = λ f a b c ab bb cb. result_copied w sh x y (low x xb) (low y yb) f a b c (low a ab) (low b bb);
      ever = λ f a b ab bb. ever_copied w sh x y (low x xb) (low y yb) f a b (low a ab) (low b bb);
      marked = λ r rb.
          let q = copied x y r in
          let qb : q < n = elim (eqb r x) as (λ k. cond k y r < n) [ true ↦ yb | false ↦ rb ] in
          let m = marked_copied w sh x y (low x xb) (low y yb) r (low r rb) in (
            (λ t. ⊎_elim (λ k. inl k) (λ k. let (one, b) = (fall q).0 k in inr (bared_i w n g i x xb y yb one d qb b))
                (or_e ((view ρ φ w).marked q) (has F q) (subst T m t))),
            (λ k. subst T (sym m) (⊎_elim (λ t. or_l ((view ρ φ w).marked q) (has F q) t)
                (λ b. or_r ((view ρ φ w).marked q) (has F q) (let (_, one, o) = bared_e w n g i x xb y yb q qb b in (fall q).1 (one, o))) k)),
          );
      infeasible = same_iff (copied_infeasible w x y);
    }

    pub inside_copied : Inside ρ n (view ρ φ v')
    inside_copied = record {
      fits = i.fits;
      same = λ r s rb sb t. let (p, q) =
          i.same (copied x y r) (copied x y s) (source r rb) (source s sb) ((same_copied w sh x y (low x xb) (low y yb) r s rb).0 t) in (back r p, back s q);
      apart = λ r s rb sb t. let (p, q) =
          i.apart (copied x y r) (copied x y s) (source r rb) (source s sb) ((apart_copied w sh x y (low x xb) (low y yb) r s rb).0 t) in (back r p, back s q);
      result = λ f a b c ab bb cb t. let (p, q, o) =
          i.result f (copied x y a) (copied x y b) (copied x y c) (source a ab) (source b bb) (source c cb)
          ((result_copied w sh x y (low x xb) (low y yb) f a b c ab bb).0 t) in (back a p, back b q, back c o);
      ever = λ f a b ab bb t. let (p, q) =
          i.ever f (copied x y a) (copied x y b) (source a ab) (source b bb) ((ever_copied w sh x y (low x xb) (low y yb) f a b ab bb).0 t) in
          (back a p, back b q);
      marked = λ r rb t. back r (⊎_elim (λ k. i.marked (copied x y r) (source r rb) k)
          (λ k. let (one, b) = (fall (copied x y r)).0 k in beneath_below w n g i x xb b)
          (or_e ((view ρ φ w).marked (copied x y r)) (has F (copied x y r)) (subst T (marked_copied w sh x y (low x xb) (low y yb) r rb) t)));
    }
