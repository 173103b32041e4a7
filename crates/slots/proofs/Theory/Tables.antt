-- The tables of slots after a step, slot by slot.
use mathlib.Core.Path.{◌≡◌, refl, sym, ap, ap₂, ◌∙◌, subst}
use mathlib.Core.Logic.Iff
use mathlib.Core.Logic.{◌⊎◌, inl, inr, ◌↔◌, ◌≢◌, ⊎_elim}
use mathlib.Core.Bool.{Bool, true, false, ◌||◌}
use mathlib.Core.List.{List}
use Prim.Native.Nat.{ℕ, ◌+◌, ◌*◌, ◌/◌, ◌%◌, ◌^◌, ◌<◌}
use native.Mathlib.Omega.{arith}
use lib.Dec.{eqb, ltb, T}
use lib.Bits.{bit_or}
use lib.ListN.{length, get_or, set}
use lib.Seq.{get_or-set_same, get_or-set_other}
use borrow.Author.Tests.{eq-eqb, ne_eqb, eqb-true, ltb-true, ltb-false}
use Rattle.base.proofs.Theory.Choice.{by_test}
use Rattle.base.specs.Masks.{has}
use Rattle.semantics.proofs.Theory.Booleans.{or_e, or_l, or_r}
use Rattle.window.specs.Places.{place}
use Rattle.window.proofs.Theory.Places.{function_place, first_place, second_place, line_entry, along_entry, place_below, entry_below}
use Rattle.window.specs.Bits.{mask_moved}
use Rattle.window.proofs.Theory.Bits.{none_in, or_is, single_is, same_iff, eq_or, truth, no_truth}
use Rattle.window.specs.Lines.{columns, rows, cleared, cleared_at}
use Rattle.window.proofs.Theory.Lines.{cleared-at, cleared_length}
use Rattle.window.specs.Through.{bits_moved, masks_through, results_through}
use Rattle.window.proofs.Theory.Through.{moved_at, moved_length, masks_length, results_length}
use Rattle.window.specs.Adding.{masks_forgotten}
use Rattle.window.proofs.Theory.Read.{Pick, pick_below, masks_is, results_is}
use Rattle.window.proofs.Theory.Applying.{gone_is, forgotten_is, row_forgotten}
use Rattle.slots.specs.Performing.{results_dropped, masks_renamed, results_renamed, result_recorded, ever_recorded}
use Rattle.slots.specs.Represents.{slot_view}
use Rattle.slots.proofs.Theory.Pulling.{called, Called, Dropped, Recorded}

-- an entry to which a register is added
pub added : (l : List ℕ) (i k v c : ℕ) → i < length l
    → T (has (get_or (set l i (bit_or (get_or l i 0) (2 ^ v))) k 0) c) ↔ (T (has (get_or l k 0) c) ⊎ ((k ≡ i) × (c ≡ v)))
added l i k v c ib = ⊎_elim
    (λ h. Iff.trans (same_iff (ap (λ z. has z c)
    (ap (λ z. get_or (set l i (bit_or (get_or l i 0) (2 ^ v))) z 0) h ∙ get_or-set_same l i (bit_or (get_or l i 0) (2 ^ v)) 0 ib)))
    (Iff.trans (or_is (get_or l i 0) (2 ^ v) c) (
      (λ t. ⊎_elim (λ p. inl (subst (λ z. T (has (get_or l z 0) c)) (sym h) p)) (λ p. inr (h, (single_is v c).0 p)) t),
      (λ t. ⊎_elim (λ p. inl (subst (λ z. T (has (get_or l z 0) c)) h p)) (λ (_, p). inr ((single_is v c).1 p)) t),
    )))
    (λ h. Iff.trans (same_iff (ap (λ z. has z c) (get_or-set_other l i k (bit_or (get_or l i 0) (2 ^ v)) 0 h)))
    ((λ t. inl t), (λ t. ⊎_elim (λ p. p) (λ (p, _). absurd (h p)) t)))
    (eq_or k i)

module _ (ρ φ : ℕ) where
  -- ---- a slot is dropped

  -- the table of results: x is no argument and holds none
  pub results_dropped_is : (x : ℕ) (l : List ℕ) → length l ≡ φ * ρ * ρ → (h a b c : ℕ) → h < φ → a < ρ → b < ρ
      → T (has (get_or (results_dropped ρ x l) (place ρ h a b) 0) c) ↔ ((a ≢ x) × (b ≢ x) × (c ≢ x) × T (has (get_or l (place ρ h a b) 0) c))
  unfolding results_dropped cleared_at
  results_dropped_is x l len h a b c hb ab bb =
      let k = place ρ h a b in
      let B = bits_moved 0 (2 ^ x) l in
      let C = cleared (columns ρ) x B in
      let lk = subst (λ z. place ρ h a b < z) (sym len) (place_below ρ h a b ab bb φ hb) in
      let l_b : place ρ h a b < length B = rw (moved_length 0 (2 ^ x) l) lk in
      let l_c : place ρ h a b < length C = rw (cleared_length (columns ρ) x B) l_b in
      let e1 = cleared-at (rows ρ) x C k l_c in
      let e2 = cleared-at (columns ρ) x B k l_b in
      let f1 = first_place ρ h a b ab bb in
      let f2 = second_place ρ h a b ab bb in
      ⊎_elim
      (λ p. let z : get_or (cleared (rows ρ) x C) k 0 ≡ 0 = e1 ∙ rw (eq-eqb (k / ρ % ρ) x (f1 ∙ p)) in
      ((λ t. absurd (none_in c (subst (λ m. T (has m c)) z t))), (λ (n, _, _, _). absurd (n p))))
      (λ p. ⊎_elim
      (λ q. let z : get_or (cleared (rows ρ) x C) k 0 ≡ 0 = e1 ∙ rw (ne_eqb (k / ρ % ρ) x (λ u. p (sym f1 ∙ u))) (e2 ∙ rw (eq-eqb (k % ρ) x (f2 ∙ q))) in
      ((λ t. absurd (none_in c (subst (λ m. T (has m c)) z t))), (λ (_, n, _, _). absurd (n q))))
      (λ q. let z : get_or (cleared (rows ρ) x C) k 0 ≡ mask_moved (get_or l k 0) 0 (2 ^ x) =
      e1 ∙ rw (ne_eqb (k / ρ % ρ) x (λ u. p (sym f1 ∙ u))) (e2 ∙ rw (ne_eqb (k % ρ) x (λ u. q (sym f2 ∙ u))) (moved_at 0 (2 ^ x) l k lk)) in
      Iff.trans (same_iff (ap (λ m. has m c) z)) (Iff.trans (gone_is (get_or l k 0) x c) ((λ (t, n). (p, q, n, t)), (λ (_, _, n, t). (t, n)))))
      (eq_or b x))
      (eq_or a x)

  module _ (u r e : List ℕ) (ul : length u ≡ ρ) (rl : length r ≡ φ * ρ * ρ) (el : length e ≡ φ * ρ) where
    pub dropped : (x : ℕ) → Dropped ρ x (slot_view ρ φ u r e) (slot_view ρ φ (masks_forgotten ρ x u) (results_dropped ρ x r) (masks_forgotten ρ x e))
    dropped x = record {
      apart = λ s t sb tb. Iff.trans (row_forgotten ρ φ x u s t ul sb) ((λ (i, k, j). (i, j, k)), (λ (i, j, k). (i, k, j)));
      result = λ f s t c sb tb cb. by_test (ltb f φ) (λ q. rw q (results_dropped_is x r rl f s t c (ltb-true f φ q) sb tb))
          (λ q. rw q ((λ k. absurd k), (λ (_, _, _, k). k)));
      ever = λ f s t sb tb. by_test (ltb f φ)
          (λ q. rw q (Iff.trans (forgotten_is ρ φ x e f s t sb (subst (λ z. ρ * f + s < z) (sym el) (entry_below ρ φ f s (ltb-true f φ q) sb)))
          ((λ (i, k, j). (i, j, k)), (λ (i, j, k). (i, k, j)))))
          (λ q. rw q ((λ k. absurd k), (λ (_, _, k). k)));
    }

    -- ---- slot b is called a

    module _ (a b : ℕ) (ab : a < ρ) (bb : b < ρ) (d : a ≢ b) where
      -- what is read as slot r
      pick_called : (r z : ℕ) → r ≢ b → Pick ρ φ a b (2 ^ a) ab bb r z ↔ (called a b z ≡ r)
      pick_called r z n = (
        (λ p. ⊎_elim
            (λ (t, h). let k = (single_is a r).0 t in ⊎_elim (λ i. rw (ne_eqb z b (λ j. d (sym i ∙ j))) (i ∙ sym k)) (λ i. rw (eq-eqb z b i) (sym k)) h)
            (λ (_, i). rw (ne_eqb z b (λ j. n (sym i ∙ j))) i) p),
        (λ h. ⊎_elim
            (λ i. let k : a ≡ r = rw (eq-eqb z b i) at h in inl ((single_is a r).1 (sym k), inr i))
            (λ i. let k : z ≡ r = rw (ne_eqb z b i) at h in
            ⊎_elim (λ j. inl ((single_is a r).1 j, inl (k ∙ j))) (λ j. inr ((λ t. j ((single_is a r).0 t)), k)) (eq_or r a))
            (eq_or z b)),
      )

      not_b : (r z : ℕ) → called a b z ≡ r → r ≢ b
      not_b r z h e = ⊎_elim (λ i. let k : a ≡ r = rw (eq-eqb z b i) at h in d (k ∙ e)) (λ i. let k : z ≡ r = rw (ne_eqb z b i) at h in i (k ∙ e)) (eq_or z b)

      below : (r z : ℕ) → r < ρ → Pick ρ φ a b (2 ^ a) ab bb r z → z < ρ
      below r z rb p = pick_below ρ φ a b (2 ^ a) ab bb r z rb p

      masks_called : (n : ℕ) (l : List ℕ) → length l ≡ n * ρ → (j s t : ℕ) → j < n → s < ρ → t < ρ
          → T (has (get_or (masks_renamed ρ a b l) (ρ * j + s) 0) t)
          ↔ ((p : ℕ) × (q : ℕ) × (p < ρ) × (q < ρ) × T (has (get_or l (ρ * j + p) 0) q) × (called a b p ≡ s) × (called a b q ≡ t))
      unfolding masks_renamed
      masks_called n l len j s t jb sb tb =
          let m = masks_through ρ a b (2 ^ a) l in
          let h = subst (λ z. ρ * j + s < z) (sym len) (entry_below ρ n j s jb sb) in
          let h' = subst (λ z. ρ * j + s < z) (sym (masks_length ρ a b (2 ^ a) l)) h in
          Iff.trans (forgotten_is ρ φ b m j s t sb h') (
            (λ (i, k, o). let (p, q, x, y, z) = (masks_is ρ φ a b (2 ^ a) ab bb l j s t sb h).0 k in
                (p, q, below s p sb x, below t q tb y, z, (pick_called s p i).0 x, (pick_called t q o).0 y)),
            (λ (p, q, _, _, z, x, y). let i = not_b s p x in let o = not_b t q y in
                (i, (masks_is ρ φ a b (2 ^ a) ab bb l j s t sb h).1 (p, q, (pick_called s p i).1 x, (pick_called t q o).1 y, z), o)),
          )

      row_called : (s t : ℕ) → s < ρ → t < ρ
          → T (has (get_or (masks_renamed ρ a b u) s 0) t)
          ↔ ((p : ℕ) × (q : ℕ) × (p < ρ) × (q < ρ) × T (has (get_or u p 0) q) × (called a b p ≡ s) × (called a b q ≡ t))
      row_called s t sb tb = Iff.trans (same_iff (ap (λ k. has (get_or (masks_renamed ρ a b u) k 0) t) (omega arith)))
          (Iff.trans (masks_called 1 u (omega (arith, ul)) 0 s t (omega arith) sb tb) (
            (λ (p, q, pb, qb, z, x, y). (p, q, pb, qb, subst (λ k. T (has (get_or u k 0) q)) (omega arith) z, x, y)),
            (λ (p, q, pb, qb, z, x, y). (p, q, pb, qb, subst (λ k. T (has (get_or u k 0) q)) (omega arith) z, x, y)),
          ))

      results_called : (f s t c : ℕ) → f < φ → s < ρ → t < ρ → c < ρ
          → T (has (get_or (results_renamed ρ a b r) (place ρ f s t) 0) c)
          ↔ ((p : ℕ) × (q : ℕ) × (o : ℕ) × (p < ρ) × (q < ρ) × (o < ρ) × T (has (get_or r (place ρ f p q) 0) o) × (called a b p ≡ s) × (called a b q ≡ t)
          × (called a b o ≡ c))
      unfolding results_renamed
      results_called f s t c fb sb tb cb =
          let m = results_through ρ a b (2 ^ a) r in
          Iff.trans (results_dropped_is b m (results_length ρ a b (2 ^ a) r ∙ rl) f s t c fb sb tb) (
            (λ (i, j, l, k). let (p, q, o, x, y, z, g) = (results_is ρ φ a b (2 ^ a) ab bb r rl f s t c fb sb tb).0 k in
                (p, q, o, below s p sb x, below t q tb y, below c o cb z, g, (pick_called s p i).0 x, (pick_called t q j).0 y, (pick_called c o l).0 z)),
            (λ (p, q, o, _, _, _, g, x, y, z). let i = not_b s p x in let j = not_b t q y in let l = not_b c o z in (
              i,
              j,
              l,
              (results_is ρ φ a b (2 ^ a) ab bb r rl f s t c fb sb tb).1
                  (p, q, o, (pick_called s p i).1 x, (pick_called t q j).1 y, (pick_called c o l).1 z, g),
            )),
          )

      pub called_tables : Called ρ a b (slot_view ρ φ u r e) (slot_view ρ φ (masks_renamed ρ a b u) (results_renamed ρ a b r) (masks_renamed ρ a b e))
      called_tables = record {
        apart = row_called;
        result = λ f s t c sb tb cb. by_test (ltb f φ) (λ q. rw q (results_called f s t c (ltb-true f φ q) sb tb cb))
            (λ q. rw q ((λ k. absurd k), (λ (_, _, _, _, _, _, k, _, _, _). k)));
        ever = λ f s t sb tb. by_test (ltb f φ) (λ q. rw q (masks_called φ e el f s t (ltb-true f φ q) sb tb))
            (λ q. rw q ((λ k. absurd k), (λ (_, _, _, _, k, _, _). k)));
      }

    -- ---- a result is recorded

    module _ (f a b m : ℕ) (fb : f < φ) (ab : a < ρ) (bb : b < ρ) where
      one_of : (a b m : ℕ) → (eqb a m || eqb b m) ≡ false → (a ≢ m) × (b ≢ m)
      one_of a b m t = (
        (λ e. no_truth (eqb a m || eqb b m) t (or_l (eqb a m) (eqb b m) (truth (eqb a m) (eq-eqb a m e)))),
        (λ e. no_truth (eqb a m || eqb b m) t (or_r (eqb a m) (eqb b m) (truth (eqb b m) (eq-eqb b m e)))),
      )

      some_of : (a b m : ℕ) → (eqb a m || eqb b m) ≡ true → (a ≢ m) × (b ≢ m) → ⊥
      some_of a b m t (i, j) = ⊎_elim (λ k. i (eqb-true a m (true_of (eqb a m) k))) (λ k. j (eqb-true b m (true_of (eqb b m) k)))
          (or_e (eqb a m) (eqb b m) (truth (eqb a m || eqb b m) t))
        where
          true_of : (b : Bool) → T b → b ≡ true
          true_of true _ = refl
          true_of false t = absurd t

      same_place : (h s t : ℕ) → s < ρ → t < ρ → (place ρ h s t ≡ place ρ f a b) ↔ ((h ≡ f) × (s ≡ a) × (t ≡ b))
      same_place h s t sb tb = (
        (λ e. (
          sym (function_place ρ h s t sb tb) ∙ ap (λ z. z / (ρ * ρ)) e ∙ function_place ρ f a b ab bb,
          sym (first_place ρ h s t sb tb)
              ∙ ap (λ z. z / ρ % ρ) e ∙ first_place ρ f a b ab bb,
          sym (second_place ρ h s t sb tb) ∙ ap (λ z. z % ρ) e ∙ second_place ρ f a b ab bb,
        )),
        (λ (x, y, z). ap₂ (λ j o. ρ * j + o) (ap₂ (λ j o. ρ * j + o) x y) z),
      )

      same_line : (h s : ℕ) → s < ρ → (ρ * h + s ≡ ρ * f + a) ↔ ((h ≡ f) × (s ≡ a))
      same_line h s sb = (
        (λ e. (sym (line_entry ρ h s sb) ∙ ap (λ z. z / ρ) e ∙ line_entry ρ f a ab, sym (along_entry ρ h s sb) ∙ ap (λ z. z % ρ) e ∙ along_entry ρ f a ab)),
        (λ (x, y). ap₂ (λ j o. ρ * j + o) x y),
      )

      result-recorded : (h s t c : ℕ) → s < ρ → t < ρ
          → T (has (get_or (result_recorded ρ f a b m r) (place ρ h s t) 0) c)
          ↔ (T (has (get_or r (place ρ h s t) 0) c) ⊎ ((a ≢ m) × (b ≢ m) × (c ≡ m) × (h ≡ f) × (s ≡ a) × (t ≡ b)))
      unfolding result_recorded
      result-recorded h s t c sb tb = by_test (eqb a m || eqb b m)
          (λ q. rw q ((λ k. inl k), (λ k. ⊎_elim (λ o. o) (λ (i, j, _, _, _, _). absurd (some_of a b m q (i, j))) k)))
          (λ q. rw q (Iff.trans (added r (place ρ f a b) (place ρ h s t) m c (subst (λ z. place ρ f a b < z) (sym rl) (place_below ρ f a b ab bb φ fb))) (
            (λ k. ⊎_elim inl (λ (i, j). let (x, y, z) = (same_place h s t sb tb).0 i in inr ((one_of a b m q).0, (one_of a b m q).1, j, x, y, z)) k),
            (λ k. ⊎_elim inl (λ (_, _, j, x, y, z). inr ((same_place h s t sb tb).1 (x, y, z), j)) k),
          )))

      ever-recorded : (h s t : ℕ) → s < ρ
          → T (has (get_or (ever_recorded ρ f a b m e) (ρ * h + s) 0) t)
          ↔ (T (has (get_or e (ρ * h + s) 0) t) ⊎ ((a ≢ m) × (b ≢ m) × (h ≡ f) × (s ≡ a) × (t ≡ b)))
      unfolding ever_recorded
      ever-recorded h s t sb = by_test (eqb a m || eqb b m)
          (λ q. rw q ((λ k. inl k), (λ k. ⊎_elim (λ o. o) (λ (i, j, _, _, _). absurd (some_of a b m q (i, j))) k)))
          (λ q. rw q (Iff.trans (added e (ρ * f + a) (ρ * h + s) b t (subst (λ z. ρ * f + a < z) (sym el) (entry_below ρ φ f a fb ab))) (
            (λ k. ⊎_elim inl (λ (i, j). let (x, y) = (same_line h s sb).0 i in inr ((one_of a b m q).0, (one_of a b m q).1, x, y, j)) k),
            (λ k. ⊎_elim inl (λ (_, _, x, y, j). inr ((same_line h s sb).1 (x, y), j)) k),
          )))

      pub recorded : Recorded ρ f a b m (slot_view ρ φ u r e) (slot_view ρ φ u (result_recorded ρ f a b m r) (ever_recorded ρ f a b m e))
      recorded = record {
        apart = λ s t sb tb. ((λ k. k), (λ k. k));
        result = λ h s t c sb tb cb. by_test (ltb h φ) (λ q. rw q (result-recorded h s t c sb tb))
            (λ q. let l = ltb-false h φ q in rw q ((λ k. absurd k), (λ k. ⊎_elim (λ o. o) (λ (_, _, _, x, _, _). absurd (omega arith)) k)));
        ever = λ h s t sb tb. by_test (ltb h φ) (λ q. rw q (ever-recorded h s t sb))
            (λ q. let l = ltb-false h φ q in rw q ((λ k. absurd k), (λ k. ⊎_elim (λ o. o) (λ (_, _, x, _, _). absurd (omega arith)) k)));
      }
