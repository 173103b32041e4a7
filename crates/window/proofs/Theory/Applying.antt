-- The window after an application with a new value, register by register: what the code makes is what Renamed asks.
use mathlib.Core.Path.{◌≡◌, refl, sym, ap, ap₂, ◌∙◌, subst}
use mathlib.Core.Logic.Iff
use mathlib.Core.Logic.{◌⊎◌, inl, inr, ◌↔◌, ◌≢◌, ⊎_elim}
use mathlib.Core.Bool.{Bool, true, false, cond, ◌&&◌, ◌||◌}
use mathlib.Core.List.{List}
use Prim.Native.Nat.{ℕ, zero, suc, ◌+◌, ◌*◌, ◌/◌, ◌%◌, ◌^◌, ◌<◌, suc-le-suc}
use native.Mathlib.Omega.{arith}
use lib.Dec.{eqb, ltb, T, eqb→eq, eqb_refl, ltb→lt, lt→ltb}
use lib.Bits.{bit_or}
use lib.ListN.{length, get_or, set}
use lib.Seq.{get_or-set_same, get_or-set_other}
use borrow.Author.Tests.{eqb-true, eqb-false, eq-eqb, ne_eqb}
use Rattle.base.proofs.Theory.Choice.{by_test}
use Rattle.base.specs.Masks.{has}
use Rattle.base.specs.LeastAndSize.{size_of}
use Rattle.semantics.proofs.Theory.Booleans.{and_l, and_r, and_i, or_e, or_l, or_r}
use Rattle.semantics.specs.View.{View}
use Rattle.semantics.proofs.Theory.Steps.{target, freshened, Renamed, Bared', Over', at', above', Still'}
use Rattle.window.proofs.Theory.Bits.{single_is, truth, no_truth, none_in, or_is, same_iff, eq_or, moved_in, moved_out, or_small, none_small}
use Rattle.window.specs.Bits.{mask_moved}
use Rattle.window.specs.Places.{place, place_function, place_first, place_second}
use Rattle.window.proofs.Theory.Places.{function_place, first_place, second_place, line_entry, along_entry, place_below, entry_below}
use Rattle.window.specs.Lines.{columns, rows, cleared, cleared_at}
use Rattle.window.proofs.Theory.Lines.{cleared-at, cleared_length}
use Rattle.window.specs.Through.{bits_moved}
use Rattle.window.proofs.Theory.Through.{moved_at, moved_length}
use Rattle.window.specs.Adding.{masks_forgotten, results_forgotten, results_added, line_added}
use Rattle.window.proofs.Theory.Adding.{line_at, line-length, added_at, added_length}
use Rattle.window.proofs.Theory.Marks.{Beneath, extra, direct, beneath}
use Rattle.window.specs.Marks.{marked_with}
use Rattle.window.specs.Performing.{fallen_of, arguments_of, applied_of}
use Rattle.window.specs.Viewing.{view, Inside, Shaped}
use Rattle.window.proofs.Theory.Laws.{Laws}
use Rattle.window.proofs.Theory.Size.{other}
use Rattle.window.proofs.Theory.Copying.{cell_result, result_cell, first_below, only, beneath_over, fallen_is, marked_at, marked_length}
use Rattle.window.specs.declared.Window.{Window}

-- what register r is in the grown window: x is the new register 0, and any other its own successor
pub data GrownRegister (x r : ℕ) : ℕ → Type 0 where
  here : r ≡ x → GrownRegister x r 0
  there : r ≢ x → GrownRegister x r (suc r)

pub at : (x r : ℕ) → GrownRegister x r (target x r)
at x r = go (eqb r x) refl
  where
    go : (b : Bool) → eqb r x ≡ b → GrownRegister x r (cond b 0 (suc r))
    go true e = here (eqb-true r x e)
    go false e = there (eqb-false r x e)

-- ---- a mask that x has left, and the tables that x has left

pub gone_is : (m x j : ℕ) → T (has (mask_moved m 0 (2 ^ x)) j) ↔ (T (has m j) × (j ≢ x))
gone_is m x j = ⊎_elim
    (λ e. Iff.trans (moved_in 0 m 0 (2 ^ x) j (none_small 0) ((single_is x j).1 e)) ((λ (d, t, _). absurd (none_in d t)), (λ (_, n). absurd (n e))))
    (λ n. Iff.trans (moved_out m 0 (2 ^ x) j (λ t. n ((single_is x j).0 t))) ((λ t. (t, n)), (λ (t, _). t)))
    (eq_or j x)

module _ (ρ φ : ℕ) where
  forgotten_length : (x : ℕ) (l : List ℕ) → length (masks_forgotten ρ x l) ≡ length l
  unfolding masks_forgotten
  forgotten_length x l = cleared_length (columns ρ) x (bits_moved 0 (2 ^ x) l) ∙ moved_length 0 (2 ^ x) l

  -- a table of masks: x has the empty mask and is in no other
  pub forgotten_is : (x : ℕ) (l : List ℕ) (j r s : ℕ) → r < ρ → ρ * j + r < length l
      → T (has (get_or (masks_forgotten ρ x l) (ρ * j + r) 0) s) ↔ ((r ≢ x) × T (has (get_or l (ρ * j + r) 0) s) × (s ≢ x))
  unfolding masks_forgotten cleared_at
  forgotten_is x l j r s rb h =
      let B = bits_moved 0 (2 ^ x) l in
      let e = cleared-at (columns ρ) x B (ρ * j + r) (rw (moved_length 0 (2 ^ x) l) h) in
      let k = along_entry ρ j r rb in
      ⊎_elim
      (λ p. let z : get_or (cleared (columns ρ) x B) (ρ * j + r) 0 ≡ 0 = e ∙ rw (eq-eqb ((ρ * j + r) % ρ) x (k ∙ p)) in
      ((λ t. absurd (none_in s (subst (λ m. T (has m s)) z t))), (λ (n, _, _). absurd (n p))))
      (λ p. let z : get_or (cleared (columns ρ) x B) (ρ * j + r) 0 ≡ mask_moved (get_or l (ρ * j + r) 0) 0 (2 ^ x) =
      e ∙ rw (ne_eqb ((ρ * j + r) % ρ) x (λ q. p (sym k ∙ q))) (moved_at 0 (2 ^ x) l (ρ * j + r) h) in
      Iff.trans (same_iff (ap (λ m. has m s) z)) (Iff.trans (gone_is (get_or l (ρ * j + r) 0) x s) ((λ (t, n). (p, t, n)), (λ (_, t, n). (t, n)))))
      (eq_or r x)

  pub row_forgotten : (x : ℕ) (l : List ℕ) (r s : ℕ) → length l ≡ ρ → r < ρ
      → T (has (get_or (masks_forgotten ρ x l) r 0) s) ↔ ((r ≢ x) × T (has (get_or l r 0) s) × (s ≢ x))
  row_forgotten x l r s e rb = subst (λ k. T (has (get_or (masks_forgotten ρ x l) k 0) s) ↔ ((r ≢ x) × T (has (get_or l k 0) s) × (s ≢ x))) (omega arith)
      (forgotten_is x l 0 r s rb (omega arith))

  -- the table of results: x is no argument, and holds the new result only
  renewed_is : (x f one two : ℕ) (l : List ℕ) → length l ≡ φ * ρ * ρ → (h a b c : ℕ) → h < φ → a < ρ → b < ρ
      → T (has (get_or (results_forgotten ρ x f one two l) (place ρ h a b) 0) c)
      ↔ ((a ≢ x) × (b ≢ x) × ((T (has (get_or l (place ρ h a b) 0) c) × (c ≢ x)) ⊎ ((c ≡ x) × T (eqb h f && (has one a && has two b)))))
  unfolding results_forgotten cleared_at
  renewed_is x f one two l len h a b c hb ab bb =
      let k = place ρ h a b in
      let B = bits_moved 0 (2 ^ x) l in
      let R = results_added ρ (has one) f two (2 ^ x) B in
      let C = cleared (columns ρ) x R in
      let lk = subst (λ z. place ρ h a b < z) (sym len) (place_below ρ h a b ab bb φ hb) in
      let l_b : place ρ h a b < length B = rw (moved_length 0 (2 ^ x) l) lk in
      let l_r : place ρ h a b < length R = rw (added_length ρ (has one) f two (2 ^ x) B) l_b in
      let l_c : place ρ h a b < length C = rw (cleared_length (columns ρ) x R) l_r in
      let e1 = cleared-at (rows ρ) x C k l_c in
      let e2 = cleared-at (columns ρ) x R k l_r in
      let f1 = first_place ρ h a b ab bb in
      let f2 = second_place ρ h a b ab bb in
      let f0 = function_place ρ h a b ab bb in
      ⊎_elim
      (λ p. let z : get_or (cleared (rows ρ) x C) k 0 ≡ 0 = e1 ∙ rw (eq-eqb (k / ρ % ρ) x (f1 ∙ p)) in
      ((λ t. absurd (none_in c (subst (λ m. T (has m c)) z t))), (λ (n, _, _). absurd (n p))))
      (λ p. ⊎_elim
      (λ q. let z : get_or (cleared (rows ρ) x C) k 0 ≡ 0 = e1 ∙ rw (ne_eqb (k / ρ % ρ) x (λ u. p (sym f1 ∙ u))) (e2 ∙ rw (eq-eqb (k % ρ) x (f2 ∙ q))) in
      ((λ t. absurd (none_in c (subst (λ m. T (has m c)) z t))), (λ (_, n, _). absurd (n q))))
      (λ q. let z : get_or (cleared (rows ρ) x C) k 0 ≡ bit_or (mask_moved (get_or l k 0) 0 (2 ^ x)) (cond ((eqb h f && has one a) && has two b) (2 ^ x) 0) =
      e1 ∙ rw (ne_eqb (k / ρ % ρ) x (λ u. p (sym f1 ∙ u)))
      (e2 ∙ rw (ne_eqb (k % ρ) x (λ u. q (sym f2 ∙ u)))
      (added_at ρ (has one) f two (2 ^ x) B k l_b ∙ ap₂ bit_or (moved_at 0 (2 ^ x) l k lk) (rw (f0, f1, f2)))) in
      Iff.trans (same_iff (ap (λ m. has m c) z))
      (Iff.trans (or_is (mask_moved (get_or l k 0) 0 (2 ^ x)) (cond ((eqb h f && has one a) && has two b) (2 ^ x) 0) c) (
        (λ t. (p, q, ⊎_elim (λ u. inl ((gone_is (get_or l k 0) x c).0 u)) (λ u. inr ((fresh (eqb h f) (has one a) (has two b)).0 u)) t)),
        (λ (_, _, t). ⊎_elim (λ u. inl ((gone_is (get_or l k 0) x c).1 u)) (λ u. inr ((fresh (eqb h f) (has one a) (has two b)).1 u)) t),
      )))
      (eq_or b x))
      (eq_or a x)
    where
      fresh : (u v w : Bool) → T (has (cond ((u && v) && w) (2 ^ x) 0) c) ↔ ((c ≡ x) × T (u && (v && w)))
      fresh true true true = ((λ t. ((single_is x c).0 t, tt)), (λ (e, _). (single_is x c).1 e))
      fresh true true false = ((λ t. absurd (none_in c t)), (λ (_, t). absurd t))
      fresh true false w = ((λ t. absurd (none_in c t)), (λ (_, t). absurd t))
      fresh false v w = ((λ t. absurd (none_in c t)), (λ (_, t). absurd t))

  module _ (w : Window) (sh : Shaped ρ φ w) (n : ℕ) (g : Laws n (view ρ φ w)) (i : Inside ρ n (view ρ φ w)) (x f y z : ℕ) (xb : x < n) (fb : f < φ) (yb : y < n)
      (zb : z < n) where
    abbrev w' : Window
    w' = applied_of ρ φ w x f y z

    abbrev W : View
    W = freshened (view ρ φ w) f y z

    low : (r : ℕ) → r < n → r < ρ
    low r b = omega (arith, i.fits)

    abbrev one : ℕ
    one = get_or w.class y 0

    abbrev two : ℕ
    two = get_or w.class z 0

    class_here : (r s : ℕ) → r ≡ x → T ((view ρ φ w').same r s) ↔ (s ≡ x)
    unfolding applied_of
    class_here r s e = subst (λ k. T (has (get_or (set (masks_forgotten ρ x w.class) x (2 ^ x)) k 0) s) ↔ (s ≡ x)) (sym e)
        (Iff.trans (same_iff (ap (λ m. has m s)
        (get_or-set_same (masks_forgotten ρ x w.class) x (2 ^ x) 0 (rw (forgotten_length x w.class ∙ sh.class) (low x xb))))) (single_is x s))

    class_there : (r s : ℕ) → r < ρ → r ≢ x → T ((view ρ φ w').same r s) ↔ (T ((view ρ φ w).same r s) × (s ≢ x))
    unfolding applied_of
    class_there r s rb d = Iff.trans (same_iff (ap (λ m. has m s) (get_or-set_other (masks_forgotten ρ x w.class) x r (2 ^ x) 0 d)))
        (Iff.trans (row_forgotten x w.class r s sh.class rb) ((λ (_, t, q). (t, q)), (λ (t, q). (d, t, q))))

    unequal_is : (r s : ℕ) → r < ρ → T ((view ρ φ w').apart r s) ↔ ((r ≢ x) × T ((view ρ φ w).apart r s) × (s ≢ x))
    unfolding applied_of
    unequal_is r s rb = row_forgotten x w.unequal r s sh.unequal rb

    same_go : {r s p q : ℕ} → r < ρ → GrownRegister x r p → GrownRegister x s q → T ((view ρ φ w').same r s) ↔ T (W.same p q)
    same_go {r} {s} rb (here a) (here b) = ((λ t. tt), (λ t. (class_here r s a).1 b))
    same_go {r} {s} rb (here a) (there b) = ((λ t. absurd (b ((class_here r s a).0 t))), (λ t. absurd t))
    same_go {r} {s} rb (there a) (here b) = ((λ t. absurd (((class_there r s rb a).0 t).1 b)), (λ t. absurd t))
    same_go {r} {s} rb (there a) (there b) = ((λ t. ((class_there r s rb a).0 t).0), (λ t. (class_there r s rb a).1 (t, b)))

    apart_go : {r s p q : ℕ} → r < ρ → GrownRegister x r p → GrownRegister x s q → T ((view ρ φ w').apart r s) ↔ T (W.apart p q)
    apart_go {r} {s} rb (here a) b = ((λ t. absurd (((unequal_is r s rb).0 t).0 a)), (λ t. absurd t))
    apart_go {r} {s} rb (there a) (here b) = ((λ t. absurd (((unequal_is r s rb).0 t).2 b)), (λ t. absurd t))
    apart_go {r} {s} rb (there a) (there b) = ((λ t. ((unequal_is r s rb).0 t).1), (λ t. (unequal_is r s rb).1 (a, t, b)))

    -- whether the entry of h at a and b is the new one
    abbrev new : ℕ → ℕ → ℕ → Bool
    new h a b = eqb h f && ((view ρ φ w).same y a && (view ρ φ w).same z b)

    new_below : (h a b : ℕ) → T (new h a b) → T (ltb h φ)
    new_below h a b t = let p = eqb→eq h f (and_l (eqb h f) ((view ρ φ w).same y a && (view ρ φ w).same z b) t) in lt→ltb h φ (omega arith)

    module _ (h a b c : ℕ) (ab : a < ρ) (bb : b < ρ) where
      result_is : T ((view ρ φ w').result h a b c)
          ↔ (T (ltb h φ) × (a ≢ x) × (b ≢ x) × ((T (has (get_or w.result (place ρ h a b) 0) c) × (c ≢ x)) ⊎ ((c ≡ x) × T (new h a b))))
      unfolding applied_of
      result_is = by_test (ltb h φ)
          (λ u. rw u (Iff.trans (renewed_is x f one two w.result sh.result h a b c (ltb→lt h φ (truth (ltb h φ) u)) ab bb)
          ((λ (p, q, t). (tt, p, q, t)), (λ (_, p, q, t). (p, q, t)))))
          (λ u. rw u ((λ k. absurd k), (λ (k, _, _, _). k)))

      result_go : {p q o : ℕ} → GrownRegister x a p → GrownRegister x b q → GrownRegister x c o → T ((view ρ φ w').result h a b c) ↔ T (W.result h p q o)
      result_go (here k) l m = ((λ t. absurd ((result_is.0 t).1 k)), (λ t. absurd t))
      result_go (there k) (here l) m = ((λ t. absurd ((result_is.0 t).2 l)), (λ t. absurd t))
      result_go (there k) (there l) (here m) = (
        (λ t. ⊎_elim (λ (_, d). absurd (d m)) (λ (_, v). v) (result_is.0 t).3),
        (λ t. result_is.1 (new_below h a b t, k, l, inr (m, t))),
      )
      result_go (there k) (there l) (there m) = (
        (λ t. let (u, _, _, v) = result_is.0 t in
            and_i (ltb h φ) (has (get_or w.result (place ρ h a b) 0) c) u (⊎_elim (λ (v, _). v) (λ (d, _). absurd (m d)) v)),
        (λ t. result_is.1 (
          and_l (ltb h φ) (has (get_or w.result (place ρ h a b) 0) c) t,
          k,
          l,
          inl
              (and_r (ltb h φ) (has (get_or w.result (place ρ h a b) 0) c) t, m),
        )),
      )

      ever_is : T ((view ρ φ w').ever h a b) ↔ (T (ltb h φ) × (a ≢ x) × (b ≢ x) × (T (has (get_or w.ever (ρ * h + a) 0) b) ⊎ T (new h a b)))
      unfolding applied_of
      ever_is = by_test (ltb h φ)
          (λ u. let l = ltb→lt h φ (truth (ltb h φ) u) in
          let A = line_added ρ f one two w.ever in
          let k = subst (λ z. ρ * h + a < z) (sym sh.ever) (entry_below ρ φ h a l ab) in
          rw u (Iff.trans (forgotten_is x A h a b ab (rw (line-length ρ f one two w.ever) k)) (
            (λ (p, t, q). (tt, p, q, (added (line_at ρ f one two w.ever (ρ * h + a) k)).0 t)),
            (λ (_, p, q, t). (p, (added (line_at ρ f one two w.ever (ρ * h + a) k)).1 t, q)),
          )))
          (λ u. rw u ((λ k. absurd k), (λ (k, _, _, _). k)))
        where
          part : (u v : Bool) → T (has (cond (u && v) two 0) b) ↔ T (u && (v && has two b))
          part true true = ((λ t. t), (λ t. t))
          part true false = ((λ t. absurd (none_in b t)), (λ t. absurd t))
          part false v = ((λ t. absurd (none_in b t)), (λ t. absurd t))

          added : {m : ℕ} → m ≡ bit_or (get_or w.ever (ρ * h + a) 0) (cond (eqb ((ρ * h + a) / ρ) f && has one ((ρ * h + a) % ρ)) two 0)
              → T (has m b) ↔ (T (has (get_or w.ever (ρ * h + a) 0) b) ⊎ T (new h a b))
          added e =
              let p = line_entry ρ h a ab in
              let q = along_entry ρ h a ab in
              let e' = e ∙ ap₂ (λ u v. bit_or (get_or w.ever (ρ * h + a) 0) (cond (eqb u f && has one v) two 0)) p q in
              Iff.trans (same_iff (ap (λ m. has m b) e')) (Iff.trans (or_is (get_or w.ever (ρ * h + a) 0) (cond (eqb h f && has one a) two 0) b) (
                (λ t. ⊎_elim inl (λ u. inr ((part (eqb h f) (has one a)).0 u)) t),
                (λ t. ⊎_elim inl (λ u. inr ((part (eqb h f) (has one a)).1 u)) t),
              ))

      ever_go : {p q : ℕ} → GrownRegister x a p → GrownRegister x b q → T ((view ρ φ w').ever h a b) ↔ T (W.ever h p q)
      ever_go (here k) l = ((λ t. absurd ((ever_is.0 t).1 k)), (λ t. absurd t))
      ever_go (there k) (here l) = ((λ t. absurd ((ever_is.0 t).2 l)), (λ t. absurd t))
      ever_go (there k) (there l) =
          let old = has (get_or w.ever (ρ * h + a) 0) b in (
            (λ t. let (u, _, _, v) = ever_is.0 t in
                ⊎_elim (λ v. or_l (ltb h φ && old) (new h a b) (and_i (ltb h φ) old u v)) (λ v. or_r (ltb h φ && old) (new h a b) v) v),
            (λ t. ⊎_elim (λ v. ever_is.1 (and_l (ltb h φ) old v, k, l, inl (and_r (ltb h φ) old v))) (λ v. ever_is.1 (new_below h a b v, k, l, inr v))
                (or_e (ltb h φ && old) (new h a b) t)),
          )

    -- ---- ways of results in the grown window: the new register is above, and nothing is above it

    over_new : {q s : ℕ} → Over' n (view ρ φ w) q s → Over' (suc n) W (suc q) (suc s)
    over_new (at' p c) = at' (suc-le-suc p) c
    over_new (above' h ab bb cb sb o d m c) = above' h (suc-le-suc ab) (suc-le-suc bb) (suc-le-suc cb) (suc-le-suc sb) (over_new o) d m c

    over_old : {q k : ℕ} → Over' (suc n) W (suc q) k → (s : ℕ) → k ≡ suc s → Over' n (view ρ φ w) q s
    over_old {q} (at' p c) s v = let p' = subst (λ z. z < suc n) v p in at' {s = s} (omega arith) (subst (λ z. T (W.same (suc q) z)) v c)
    over_old {q} (above' h {a} {b} {c} {u} ab bb cb sb o d m j) s v =
        let sb' = subst (λ z. z < suc n) v sb in
        go a b c u ab bb cb (omega arith) (over_old o) d m (subst (λ z. T (W.same c z)) v j)
      where
        go : (a b c u : ℕ) → a < suc n → b < suc n → c < suc n → s < n → ((t : ℕ) → u ≡ suc t → Over' n (view ρ φ w) q t) → T (W.same u a) ⊎ T (W.same u b)
            → T (W.result h a b c) → T (W.same c (suc s)) → Over' n (view ρ φ w) q s
        go zero b c u ab bb cb sb ih d m j = absurd m
        go (suc a) zero c u ab bb cb sb ih d m j = absurd m
        go (suc a) (suc b) zero u ab bb cb sb ih d m j = absurd j
        go (suc a) (suc b) (suc c) zero ab bb cb sb ih d m j = absurd (⊎_elim (λ k. k) (λ k. k) d)
        go (suc a) (suc b) (suc c) (suc u) ab bb cb sb ih d m j =
            above' h {a = a} {b = b} {c = c} (omega arith) (omega arith) (omega arith) sb (ih u refl) d m j

    over_zero : {k : ℕ} → Over' (suc n) W 0 k → k ≡ 0
    over_zero (at' {s = k} p c) = go k c
      where
        go : (k : ℕ) → T (W.same 0 k) → k ≡ 0
        go zero t = refl
        go (suc k) t = absurd t
    over_zero (above' h {a} {b} {c} {u} ab bb cb sb o d m j) = absurd (go a b (subst (λ z. T (W.same z a) ⊎ T (W.same z b)) (over_zero o) d) m)
      where
        go : (a b : ℕ) → T (W.same 0 a) ⊎ T (W.same 0 b) → T (W.result h a b c) → ⊥
        go zero b d m = m
        go (suc a) zero d m = m
        go (suc a) (suc b) d m = ⊎_elim (λ k. k) (λ k. k) d

    no_bared : ¬ Bared' (suc n) W (target x) n 0
    no_bared b = go b.first b.second (⊎_elim (λ o. inl (over_zero o)) (λ o. inr (over_zero o)) b.over) b.holds
      where
        go : (p q : ℕ) → (p ≡ 0) ⊎ (q ≡ 0) → T (W.result b.function p q b.to) → ⊥
        go zero q k m = m
        go (suc p) zero k m = m
        go (suc p) (suc q) k m = ⊎_elim (λ v. omega arith) (λ v. omega arith) k

    -- ---- which registers are still held

    target_there : (r : ℕ) → r ≢ x → target x r ≡ suc r
    target_there r d = rw (ne_eqb r x d)

    still_new : Still' (suc n) W (target x) n 0
    still_new = (x, xb, subst (λ z. T (W.same 0 z)) (sym here_is) tt)
      where
        here_is : target x x ≡ 0
        here_is = rw (eq-eqb x x refl)

    still_by : (q j : ℕ) → j < n → j ≢ x → T ((view ρ φ w).same q j) → Still' (suc n) W (target x) n (suc q)
    still_by q j jb d t = (j, jb, subst (λ z. T (W.same (suc q) z)) (sym (target_there j d)) t)

    still_other : (q : ℕ) → q < n → q ≢ x → Still' (suc n) W (target x) n (suc q)
    still_other q qb d = still_by q q qb d (g.self q qb)

    not_still : size_of ρ (get_or w.class x 0) ≡ 1 → ¬ Still' (suc n) W (target x) n (suc x)
    not_still one (r, rb, t) = go (at x r) t
      where
        go : {k : ℕ} → GrownRegister x r k → T (W.same (suc x) k) → ⊥
        go (here p) t = t
        go (there p) t = p (only ρ φ w n g i x xb one r rb t)

    -- ---- the registers beneath the arguments

    abbrev more : ℕ
    more = arguments_of x y z (get_or w.class y 0) (get_or w.class z 0)

    more_is : (r : ℕ) → T (has more r) ↔ (((y ≡ x) ⊎ (z ≡ x)) × (T ((view ρ φ w).same y r) ⊎ T ((view ρ φ w).same z r)))
    unfolding arguments_of
    more_is r = by_test (eqb y x || eqb z x)
        (λ t. rw t (Iff.trans (or_is one two r)
        ((λ k. (⊎_elim (λ u. inl (eqb→eq y x u)) (λ u. inr (eqb→eq z x u)) (or_e (eqb y x) (eqb z x) (truth (eqb y x || eqb z x) t)), k)), (λ (_, k). k))))
        (λ t. rw t (
          (λ k. absurd (none_in r k)),
          (λ (p, _). absurd (no_truth (eqb y x || eqb z x) t
              (⊎_elim (λ e. or_l (eqb y x) (eqb z x) (subst (λ k. T (eqb y k)) e (eqb_refl y)))
              (λ e. or_r (eqb y x) (eqb z x) (subst (λ k. T (eqb z k)) e (eqb_refl z))) p))),
        ))

    more_small : more < 2 ^ ρ
    unfolding arguments_of
    more_small = by_test (eqb y x || eqb z x) (λ t. rw t (or_small ρ one two (sh.class_bytes y) (sh.class_bytes z))) (λ t. rw t (none_small ρ))

    more_closed : (q s : ℕ) → q < n → s < n → T ((view ρ φ w).same q s) → T (has more s) → T (has more q)
    more_closed q s qb sb k t =
        let (p, h) = (more_is s).0 t in
        let k' = g.turned q s qb sb k in
        (more_is q).1 (p, ⊎_elim (λ v. inl (g.joined y s q yb sb qb v k')) (λ v. inr (g.joined z s q zb sb qb v k')) h)

    beneath_low : {q : ℕ} → q < ρ → Beneath ρ φ w.result x more q → q < n
    beneath_low {q} qb (extra t) = ⊎_elim (λ k. (i.same y q (low y yb) qb k).1) (λ k. (i.same z q (low z zb) qb k).1) ((more_is q).0 t).1
    beneath_low qb (direct k {c} kb cb t d v) = let (ab, bb, cc) = first_below ρ φ w n g i x xb k c kb cb t in
        ⊎_elim (λ p. subst (λ z. z < n) (sym p) ab) (λ p. subst (λ z. z < n) (sym p) bb) v
    beneath_low qb (beneath k {c} kb cb t o v) = let (ab, bb, cc) = first_below ρ φ w n g i x xb k c kb cb t in
        ⊎_elim (λ p. subst (λ z. z < n) (sym p) ab) (λ p. subst (λ z. z < n) (sym p) bb) v

    bared_i : size_of ρ (get_or w.class x 0) ≡ 1 → {q : ℕ} → q < n → Beneath ρ φ w.result x more q → Bared' (suc n) W (target x) n (suc q)
    bared_i one {q} qb (extra t) =
        let (p, h) = (more_is q).0 t in
        record {
          function = f;
          first = suc y;
          second = suc z;
          to = 0;
          first_below = suc-le-suc yb;
          second_below = suc-le-suc zb;
          to_below = omega arith;
          holds = and_i (eqb f f) ((view ρ φ w).same y y && (view ρ φ w).same z z) (eqb_refl f)
              (and_i ((view ρ φ w).same y y) ((view ρ φ w).same z z) (g.self y yb) (g.self z zb));
          over = ⊎_elim (λ k. inl (at' (suc-le-suc yb) (g.turned y q yb qb k))) (λ k. inr (at' (suc-le-suc zb) (g.turned z q zb qb k))) h;
          lost = λ (s, s', s''). ⊎_elim (λ v. not_still one (subst (λ r. Still' (suc n) W (target x) n (suc r)) v s'))
              (λ v. not_still one (subst (λ r. Still' (suc n) W (target x) n (suc r)) v s'')) p;
        }
    bared_i one {q} qb (direct k {c} kb cb t h v) =
        let (ab, bb, cc) = first_below ρ φ w n g i x xb k c kb cb t in
        let bad = not_still one in
        record {
          function = place_function ρ k;
          first = suc (place_first ρ k);
          second = suc (place_second ρ k);
          to = suc c;
          first_below = suc-le-suc ab;
          second_below = suc-le-suc bb;
          to_below = suc-le-suc cc;
          holds = cell_result ρ φ w k c kb t;
          over = ⊎_elim (λ p. inl (at' (suc-le-suc ab) (subst (λ z. T ((view ρ φ w).same q z)) p (g.self q qb))))
              (λ p. inr (at' (suc-le-suc bb) (subst (λ z. T ((view ρ φ w).same q z)) p (g.self q qb)))) v;
          lost = λ (s, s', s''). ⊎_elim
              (λ p. bad (subst (λ r. Still' (suc n) W (target x) n (suc r)) p s'))
              (⊎_elim (λ p. bad (subst (λ r. Still' (suc n) W (target x) n (suc r)) p s'')) (λ p. bad (subst (λ r. Still' (suc n) W (target x) n (suc r)) p s)))
              h;
        }
    bared_i one {q} qb (beneath k {c} kb cb t o v) =
        let (ab, bb, cc) = first_below ρ φ w n g i x xb k c kb cb t in
        let b = bared_i one cc o in
        record {
          function = b.function;
          first = b.first;
          second = b.second;
          to = b.to;
          first_below = b.first_below;
          second_below = b.second_below;
          to_below = b.to_below;
          holds = b.holds;
          over = ⊎_elim (λ u. inl (over_up k c kb cb t qb v ab bb cc u)) (λ u. inr (over_up k c kb cb t qb v ab bb cc u)) b.over;
          lost = b.lost;
        }
      where
        over_up : {q : ℕ} (k c : ℕ) {s : ℕ} → k < φ * ρ * ρ → c < ρ → T (has (get_or w.result k 0) c) → q < n → (q ≡ place_first ρ k) ⊎ (q ≡ place_second ρ k)
            → place_first ρ k < n → place_second ρ k < n → c < n
            → Over' (suc n) W (suc c) s → Over' (suc n) W (suc q) s
        over_up {q} k c kb cb t qb v ab bb cc (at' sb d) =
            above' (place_function ρ k) {a = suc (place_first ρ k)} {b = suc (place_second ρ k)} {c = suc c} (suc-le-suc ab) (suc-le-suc bb) (suc-le-suc cc) sb
            (at' (suc-le-suc qb) (g.self q qb))
            (⊎_elim (λ p. inl (subst (λ z. T ((view ρ φ w).same q z)) p (g.self q qb))) (λ p. inr (subst (λ z. T ((view ρ φ w).same q z)) p (g.self q qb))) v)
            (cell_result ρ φ w k c kb t) d
        over_up k c kb cb t qb v ab bb cc (above' h ab' bb' cb' sb o d m j) = above' h ab' bb' cb' sb (over_up k c kb cb t qb v ab bb cc o) d m j

    bared_e : (q : ℕ) → q < n → Bared' (suc n) W (target x) n (suc q) → (x ≡ ρ → ⊥) × (size_of ρ (get_or w.class x 0) ≡ 1) × Beneath ρ φ w.result x more q
    bared_e q qb v = let xl = low x xb in (
      (λ p. omega arith),
      one,
      go v.function v.first v.second v.to v.first_below v.second_below v.to_below v.holds v.over
          v.lost,
    )
      where
        S : ℕ → Type 0
        S r = Still' (suc n) W (target x) n r

        all_still : (j : ℕ) → j < n → j ≢ x → T ((view ρ φ w).same x j) → (r : ℕ) → r < suc n → Still' (suc n) W (target x) n r
        all_still j jb d t zero rb = still_new
        all_still j jb d t (suc r) rb =
            ⊎_elim (λ p. subst (λ k. Still' (suc n) W (target x) n (suc k)) (sym p) (still_by x j jb d t)) (still_other r (omega arith)) (eq_or r x)

        one : size_of ρ (get_or w.class x 0) ≡ 1
        one = ⊎_elim (λ p. p)
            (λ p. let (j, jb, d, t) = other ρ (get_or w.class x 0) x (low x xb) (g.self x xb) p in
            let jn = (i.same x j (low x xb) jb t).1 in
            absurd (v.lost (
              all_still j jn d t v.to v.to_below,
              all_still j jn d t v.first v.first_below,
              all_still j jn d t v.second
                  v.second_below,
            )))
            (eq_or (size_of ρ (get_or w.class x 0)) 1)

        down : {s : ℕ} → Over' (suc n) W (suc q) (suc s) → Beneath ρ φ w.result x more s → Beneath ρ φ w.result x more q
        down {s} o h = beneath_over ρ φ w n g i x xb one more more_closed qb (over_old o s refl) h

        named : (a b c : ℕ) → a < n → b < n → c < n
            → ¬ (Still' (suc n) W (target x) n (suc c) × Still' (suc n) W (target x) n (suc a) × Still' (suc n) W (target x) n (suc b))
            → (a ≡ x) ⊎ ((b ≡ x) ⊎ (c ≡ x))
        named a b c ab bb cb l = ⊎_elim inl
            (λ p. inr (⊎_elim inl (λ r. inr (⊎_elim (λ t. t) (λ t. absurd (l (still_other c cb t, still_other a ab p, still_other b bb r))) (eq_or c x)))
            (eq_or b x))) (eq_or a x)

        go : (h a b c : ℕ) → a < suc n → b < suc n → c < suc n → T (W.result h a b c) → Over' (suc n) W (suc q) a ⊎ Over' (suc n) W (suc q) b
            → ¬ (Still' (suc n) W (target x) n c × Still' (suc n) W (target x) n a × Still' (suc n) W (target x) n b) → Beneath ρ φ w.result x more q
        go h zero b c ab bb cb m o l = absurd m
        go h (suc a) zero c ab bb cb m o l = absurd m
        go h (suc a) (suc b) (suc c) ab bb cb m o l =
            let an : a < n = omega arith in
            let bn : b < n = omega arith in
            let cn : c < n = omega arith in
            let (k, t) = result_cell ρ φ w h a b c (low a an) (low b bn) m in
            let p = first_place ρ h a b (low a an) (low b bn) in
            let p' = second_place ρ h a b (low a an) (low b bn) in
            let d = ⊎_elim (λ u. inl (p ∙ u)) (⊎_elim (λ u. inr (inl (p' ∙ u))) (λ u. inr (inr u))) (named a b c an bn cn l) in
            ⊎_elim (λ u. down u (direct (place ρ h a b) k (low c cn) t d (inl (sym p))))
            (λ u. down u (direct (place ρ h a b) k (low c cn) t d (inr (sym p')))) o
        go h (suc a) (suc b) zero ab bb cb m o l =
            let an : a < n = omega arith in
            let bn : b < n = omega arith in
            let r = and_r (eqb h f) ((view ρ φ w).same y a && (view ρ φ w).same z b) m in
            let sa = and_l ((view ρ φ w).same y a) ((view ρ φ w).same z b) r in
            let sb = and_r ((view ρ φ w).same y a) ((view ρ φ w).same z b) r in
            let at_y : a ≡ x → y ≡ x = (λ p. only ρ φ w n g i x xb one y yb (subst (λ k. T ((view ρ φ w).same k y)) p (g.turned y a yb an sa))) in
            let at_z : b ≡ x → z ≡ x = (λ p. only ρ φ w n g i x xb one z zb (subst (λ k. T ((view ρ φ w).same k z)) p (g.turned z b zb bn sb))) in
            let d : (y ≡ x) ⊎ (z ≡ x) = ⊎_elim (λ p. inl (at_y p))
            (λ p. ⊎_elim (λ p'. inr (at_z p')) (λ p'. absurd (l (still_new, still_other a an p, still_other b bn p'))) (eq_or b x)) (eq_or a x) in
            ⊎_elim (λ u. down u (extra ((more_is a).1 (d, inl sa)))) (λ u. down u (extra ((more_is b).1 (d, inr sb)))) o

    abbrev F : ℕ
    F = fallen_of ρ φ (get_or w.class x 0) w.result x more

    fall : (r : ℕ) → T (has F r) ↔ ((size_of ρ (get_or w.class x 0) ≡ 1) × Beneath ρ φ w.result x more r)
    fall = fallen_is ρ φ (get_or w.class x 0) w.result x more (low x xb) more_small

    marked_there : (r : ℕ) → r < ρ → r ≢ x → (view ρ φ w').marked r ≡ ((view ρ φ w).marked r || has F r)
    unfolding applied_of
    marked_there r rb d = get_or-set_other (marked_with ρ w.mark F) x r false false d ∙ marked_at ρ φ w.mark F r rb

    marked_here : (r : ℕ) → r < ρ → r ≡ x → (view ρ φ w').marked r ≡ false
    unfolding applied_of
    marked_here r rb d = subst (λ k. get_or (set (marked_with ρ w.mark F) x false) k false ≡ false) (sym d)
        (get_or-set_same (marked_with ρ w.mark F) x false false (rw (marked_length ρ φ w.mark F) (low x xb)))

    kept_infeasible : (view ρ φ w').infeasible ≡ (view ρ φ w).infeasible
    unfolding applied_of
    kept_infeasible = refl

    marked_go : {r p : ℕ} → r < n → GrownRegister x r p → T ((view ρ φ w').marked r) ↔ (T (W.marked p) ⊎ Bared' (suc n) W (target x) n p)
    marked_go {r} rb (here d) = ((λ t. absurd (no_truth ((view ρ φ w').marked r) (marked_here r (low r rb) d) t)), (λ k. absurd (⊎_elim (λ t. t) no_bared k)))
    marked_go {r} rb (there d) = Iff.trans (same_iff (marked_there r (low r rb) d)) (
      (λ t. ⊎_elim inl (λ k. let (o, b) = (fall r).0 k in inr (bared_i o rb b)) (or_e ((view ρ φ w).marked r) (has F r) t)),
      (λ k. ⊎_elim (or_l ((view ρ φ w).marked r) (has F r)) (λ b. or_r ((view ρ φ w).marked r) (has F r) (let (_, o, q) = bared_e r rb b in (fall r).1
          (o, q))) k),
    )

    pub renamed_applied : Renamed (suc n) W (target x) n (view ρ φ w')
    renamed_applied = record {
      same = λ r s rb sb. same_go (low r rb) (at x r) (at x s);
      apart = λ r s rb sb. apart_go (low r rb) (at x r) (at x s);
      result = λ h a b c ab bb cb. result_go h a b c (low a ab) (low b bb) (at x a) (at x b) (at x c);
      ever = λ h a b ab bb. ever_go h a b 0 (low a ab) (low b bb) (at x a) (at x b);
      marked = λ r rb. marked_go rb (at x r);
      infeasible = same_iff kept_infeasible;
    }

    pub inside_applied : Inside ρ n (view ρ φ w')
    inside_applied = record {
      fits = i.fits;
      same = λ r s rb sb t. same_in rb sb (at x r) (at x s) ((same_go rb (at x r) (at x s)).0 t);
      apart = λ r s rb sb t. apart_in rb sb (at x r) (at x s) ((apart_go rb (at x r) (at x s)).0 t);
      result = λ h a b c ab bb cb t. result_in h ab bb cb (at x a) (at x b) (at x c) ((result_go h a b c ab bb (at x a) (at x b) (at x c)).0 t);
      ever = λ h a b ab bb t. ever_in h ab bb (at x a) (at x b) ((ever_go h a b 0 ab bb (at x a) (at x b)).0 t);
      marked = λ r rb t. marked_in rb t (eq_or r x);
    }
      where
        same_in : {r s p q : ℕ} → r < ρ → s < ρ → GrownRegister x r p → GrownRegister x s q → T (W.same p q) → (r < n) × (s < n)
        same_in rb sb (here d) (here d') t = (subst (λ z. z < n) (sym d) xb, subst (λ z. z < n) (sym d') xb)
        same_in rb sb (here d) (there d') t = absurd t
        same_in rb sb (there d) (here d') t = absurd t
        same_in {r} {s} rb sb (there d) (there d') t = i.same r s rb sb t

        apart_in : {r s p q : ℕ} → r < ρ → s < ρ → GrownRegister x r p → GrownRegister x s q → T (W.apart p q) → (r < n) × (s < n)
        apart_in rb sb (here d) k t = absurd t
        apart_in rb sb (there d) (here d') t = absurd t
        apart_in {r} {s} rb sb (there d) (there d') t = i.apart r s rb sb t

        new_in : (h a b : ℕ) → a < ρ → b < ρ → T (new h a b) → (a < n) × (b < n)
        new_in h a b ab bb t =
            let r = and_r (eqb h f) ((view ρ φ w).same y a && (view ρ φ w).same z b) t in (
              (i.same y a (low y yb) ab (and_l ((view ρ φ w).same y a) ((view ρ φ w).same z b) r)).1,
              (i.same z b (low z zb) bb
                  (and_r ((view ρ φ w).same y a) ((view ρ φ w).same z b) r)).1,
            )

        result_in : (h : ℕ) {a b c p q o : ℕ} → a < ρ → b < ρ → c < ρ → GrownRegister x a p → GrownRegister x b q → GrownRegister x c o → T (W.result h p q o)
            → (a < n) × (b < n) × (c < n)
        result_in h ab bb cb (here d) k l t = absurd t
        result_in h ab bb cb (there d) (here d') l t = absurd t
        result_in h {a} {b} ab bb cb (there d) (there d') (here d'') t = let (p, q) = new_in h a b ab bb t in (p, q, subst (λ z. z < n) (sym d'') xb)
        result_in h {a} {b} {c} ab bb cb (there d) (there d') (there d'') t = i.result h a b c ab bb cb t

        ever_in : (h : ℕ) {a b p q : ℕ} → a < ρ → b < ρ → GrownRegister x a p → GrownRegister x b q → T (W.ever h p q) → (a < n) × (b < n)
        ever_in h ab bb (here d) k t = absurd t
        ever_in h ab bb (there d) (here d') t = absurd t
        ever_in h {a} {b} ab bb (there d) (there d') t =
            ⊎_elim (λ k. i.ever h a b ab bb k) (λ k. new_in h a b ab bb k) (or_e ((view ρ φ w).ever h a b) (new h a b) t)

        marked_in : {r : ℕ} → r < ρ → T ((view ρ φ w').marked r) → (r ≡ x) ⊎ (r ≢ x) → r < n
        marked_in rb t (inl d) = subst (λ z. z < n) (sym d) xb
        marked_in {r} rb t (inr d) = ⊎_elim (i.marked r rb) (λ k. let (_, b) = (fall r).0 k in beneath_low rb b)
            (or_e ((view ρ φ w).marked r) (has F r) (subst T (marked_there r rb d) t))
