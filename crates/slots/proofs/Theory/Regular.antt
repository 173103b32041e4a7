-- Slots that pass the tests of `regular` represent the window that is read from them.
use mathlib.Core.Path.{◌≡◌, refl, sym, ap, ◌∙◌, subst}
use mathlib.Core.Logic.Iff
use mathlib.Core.Logic.{inl, inr, ◌↔◌, ◌≢◌, ⊎_elim}
use mathlib.Core.Bool.{Bool, true, false, not, cond, ◌&&◌}
use mathlib.Core.List.{List}
use Prim.Native.Nat.{ℕ, zero, suc, ◌+◌, ◌*◌, ◌/◌, ◌%◌, ◌^◌, ◌≤◌, ◌<◌}
use native.Mathlib.Omega.{arith}
use native.Mathlib.Nat.{mod-eq_of_lt}
use lib.Dec.{eqb, ltb, T, eqb→eq, ltb→lt, lt→ltb}
use lib.Bits.{bit_and}
use lib.ListN.{length, get_or, get_or-eq_default}
use borrow.Author.Tests.{eqb-false, eq-eqb, ltb-false}
use Rattle.base.proofs.Theory.Choice.{by_test}
use Rattle.base.specs.Choice.{pick}
use Rattle.base.specs.Masks.{has}
use Rattle.semantics.proofs.Theory.Booleans.{and_l, and_r, and_i}
use Rattle.window.proofs.Theory.Bits.{truth, no_truth, none_in, none_small, or_is, or_small, pow_small, single_is, has_and, same_iff, eq_or, less_or}
use Rattle.window.specs.Places.{place}
use Rattle.window.proofs.Theory.Places.{function_place, first_place, second_place, line_entry, along_entry, place_below, entry_below}
use Rattle.window.specs.Table.{table}
use Rattle.window.proofs.Theory.Table.{table_at, table_out, table_length}
use Rattle.window.specs.Adding.{part_of}
use Rattle.window.specs.Viewing.{view, Inside, Masks, Shaped}
use Rattle.window.specs.declared.Window.{Window}
use Rattle.slots.specs.Slots.{Slots, slot_of, Low, SlotTableLengths}
use Rattle.slots.specs.Performing.{has_slot, pulled_of, doubled_of, entry_of, pulled_at, pulled_masks, pulled_results, pulled_classes, pulled_marks, window_of}
use Rattle.slots.specs.Performing.{members_of, grouped_of, used_of, kept_at, clean_of, regular_of, represents_of}
use Rattle.slots.specs.Represents.{Used, Pulled, Clean, Single, Grouped, slot_view, RepresentsWindow}
use Rattle.slots.proofs.Theory.Room.{some_in}
use Rattle.slots.proofs.Theory.Entries.{part_is, held_is, pulled_in, pulled_small, entry_has}
use Rattle.slots.proofs.Theory.Closings.{many_is, doubled_none}

-- ---- what the tests say

module _ (ρ : ℕ) where
  members_is : (slot : List ℕ) (n s k r : ℕ) → T (has (members_of ρ slot n s k) r) ↔ ((r < k) × (r < n) × (slot_of slot r ≡ s))
  unfolding members_of
  members_is slot n s zero r = ((λ t. absurd (none_in r t)), (λ (b, _, _). absurd (omega arith)))
  members_is slot n s (suc k) r = Iff.trans (or_is (members_of ρ slot n s k) (cond (ltb k n && eqb (slot_of slot k) s) (2 ^ k) 0) r) (
    (λ t. ⊎_elim (λ u. let (b, p, q) = (members_is slot n s k r).0 u in (omega arith, p, q))
        (λ u. let (e, p, q) = (here r).0 u in (omega arith, subst (λ z. z < n) (sym e) p, subst (λ z. slot_of slot z ≡ s) (sym e) q)) t),
    (λ (b, p, q). ⊎_elim (λ e. inr ((here r).1 (e, subst (λ z. z < n) e p, subst (λ z. slot_of slot z ≡ s) e q)))
        (λ e. inl ((members_is slot n s k r).1 (omega arith, p, q))) (eq_or r k)),
  )
    where
      here : (r : ℕ) → T (has (cond (ltb k n && eqb (slot_of slot k) s) (2 ^ k) 0) r) ↔ ((r ≡ k) × (k < n) × (slot_of slot k ≡ s))
      here r = by_test (ltb k n && eqb (slot_of slot k) s)
          (λ t. let u = truth (ltb k n && eqb (slot_of slot k) s) t in
          rw t (
            (λ q. (
              (single_is k r).0 q,
              ltb→lt k n (and_l (ltb k n) (eqb (slot_of slot k) s) u),
              eqb→eq (slot_of slot k) s
                  (and_r (ltb k n) (eqb (slot_of slot k) s) u),
            )),
            (λ (e, _, _). (single_is k r).1 e),
          ))
          (λ t. rw t (
            (λ q. absurd (none_in r q)),
            (λ (_, p, q). absurd (no_truth (ltb k n && eqb (slot_of slot k) s) t
                (and_i (ltb k n) (eqb (slot_of slot k) s) (lt→ltb k n p) (truth (eqb (slot_of slot k) s) (eq-eqb (slot_of slot k) s q))))),
          ))

  members_small : (slot : List ℕ) (n s k : ℕ) → k ≤ ρ → members_of ρ slot n s k < 2 ^ ρ
  unfolding members_of
  members_small slot n s zero h = none_small ρ
  members_small slot n s (suc k) h =
      or_small ρ (members_of ρ slot n s k) (cond (ltb k n && eqb (slot_of slot k) s) (2 ^ k) 0) (members_small slot n s k (omega arith))
      (by_test (ltb k n && eqb (slot_of slot k) s) (λ t. rw t (pow_small ρ k (omega arith))) (λ t. rw t (none_small ρ)))

  grouped_at : (slot regs : List ℕ) (n k : ℕ) → T (grouped_of ρ slot regs n k) → (j : ℕ) → j < k
      → (slot_of slot j < ρ) × (get_or regs j 0 ≡ members_of ρ slot n j ρ)
  unfolding grouped_of
  grouped_at slot regs n zero t j b = absurd (omega arith)
  grouped_at slot regs n (suc k) t j b =
      let G = grouped_of ρ slot regs n k in
      let L = ltb (slot_of slot k) ρ in
      let E = eqb (get_or regs k 0) (members_of ρ slot n k ρ) in
      ⊎_elim
      (λ e. let u = and_r G (L && E) t in
      subst (λ z. (slot_of slot z < ρ) × (get_or regs z 0 ≡ members_of ρ slot n z ρ)) (sym e)
      (ltb→lt (slot_of slot k) ρ (and_l L E u), eqb→eq (get_or regs k 0) (members_of ρ slot n k ρ) (and_r L E u)))
      (λ e. grouped_at slot regs n k (and_l G (L && E) t) j (omega arith))
      (eq_or j k)

  used_is : (regs : List ℕ) (k s : ℕ) → T (has (used_of ρ regs k) s) → (s < k) × (get_or regs s 0 ≢ 0)
  unfolding used_of
  used_is regs zero s t = absurd (none_in s t)
  used_is regs (suc k) s t = ⊎_elim
      (λ u. let (b, d) = used_is regs k s u in (omega arith, d))
      (λ u. let (e, d) = here u in (omega arith, subst (λ z. get_or regs z 0 ≢ 0) (sym e) d))
      ((or_is (used_of ρ regs k) (cond (eqb (get_or regs k 0) 0) 0 (2 ^ k)) s).0 t)
    where
      here : T (has (cond (eqb (get_or regs k 0) 0) 0 (2 ^ k)) s) → (s ≡ k) × (get_or regs k 0 ≢ 0)
      here = by_test (eqb (get_or regs k 0) 0) (λ q. rw q (λ u. absurd (none_in s u))) (λ q. rw q (λ u. ((single_is k s).0 u, eqb-false (get_or regs k 0) 0 q)))

  clean_at : (used step : ℕ) (l : List ℕ) (k : ℕ) → T (clean_of ρ used step l k) → (j c : ℕ) → j < k → T (has (get_or l j 0) c)
      → T (has used (j / step % ρ)) × T (has used c)
  unfolding clean_of kept_at
  clean_at used step l zero t j c b u = absurd (omega arith)
  clean_at used step l (suc k) t j c b u =
      let G = clean_of ρ used step l k in
      let P = part_of used (bit_and (get_or l k 0) used) (k / step % ρ) in
      let E = eqb (get_or l k 0) P in
      ⊎_elim
      (λ e. let h = eqb→eq (get_or l k 0) P (and_r G E t) in
      let (p, q) = (part_is used (bit_and (get_or l k 0) used) (k / step % ρ) c).0 (subst (λ z. T (has z c)) h (subst (λ z. T (has (get_or l z 0) c)) e u)) in
      (subst (λ z. T (has used (z / step % ρ))) (sym e) p, and_r (has (get_or l k 0) c) (has used c) (subst T (has_and (get_or l k 0) used c) q)))
      (λ e. clean_at used step l k (and_l G E t) j c (omega arith) u)
      (eq_or j k)

module _ (ρ φ n : ℕ) (s : Slots) (fits : n ≤ ρ) (slot_long : length s.slot ≡ ρ) (regs_long : length s.regs ≡ ρ)
    (tables : SlotTableLengths ρ φ s.unequal s.result s.ever) (mark_long : length s.mark ≡ ρ) (ok : T (regular_of ρ φ s n)) where
  abbrev g : ℕ → ℕ
  g = slot_of s.slot

  abbrev used : ℕ
  used = used_of ρ s.regs ρ

  -- the tests one by one
  pub record Passed : Type 0 where
    pub groups : T (grouped_of ρ s.slot s.regs n ρ)
    pub apart : T (clean_of ρ (used_of ρ s.regs ρ) 1 s.unequal ρ)
    pub ever : T (clean_of ρ (used_of ρ s.regs ρ) 1 s.ever (φ * ρ))
    pub second : T (clean_of ρ (used_of ρ s.regs ρ) 1 s.result (φ * ρ * ρ))
    pub first : T (clean_of ρ (used_of ρ s.regs ρ) ρ s.result (φ * ρ * ρ))
    pub single : T (not (doubled_of ρ s.result (φ * ρ * ρ)))

  passed : Passed
  unfolding regular_of
  passed =
      let A = grouped_of ρ s.slot s.regs n ρ in
      let B = clean_of ρ used 1 s.unequal ρ in
      let C = clean_of ρ used 1 s.ever (φ * ρ) in
      let D = clean_of ρ used 1 s.result (φ * ρ * ρ) in
      let E = clean_of ρ used ρ s.result (φ * ρ * ρ) in
      let F = not (doubled_of ρ s.result (φ * ρ * ρ)) in
      let e = and_l ((((A && B) && C) && D) && E) F ok in
      let d = and_l (((A && B) && C) && D) E e in
      let c = and_l ((A && B) && C) D d in
      let b = and_l (A && B) C c in
      record {
        groups = and_l A B b;
        apart = and_r A B b;
        ever = and_r (A && B) C c;
        second = and_r ((A && B) && C) D d;
        first = and_r (((A && B) && C) && D) E e;
        single = and_r ((((A && B) && C) && D) && E) F ok;
      }

  low : Low ρ s.slot
  low = record { long = slot_long; below = λ r rb. (grouped_at ρ s.slot s.regs n ρ passed.groups r rb).0 }

  grouped : Grouped ρ n s.slot s.regs
  grouped = record {
    members = λ t r tb. Iff.trans (same_iff (ap (λ z. has z r) (grouped_at ρ s.slot s.regs n ρ passed.groups t tb).1))
        (Iff.trans (members_is ρ s.slot n t ρ r) ((λ (_, p, q). (p, q)), (λ (p, q). (omega arith, p, q))));
    bytes = λ k. ⊎_elim
        (λ kb. subst (λ z. z < 2 ^ ρ) (sym (grouped_at ρ s.slot s.regs n ρ passed.groups k kb).1) (members_small ρ s.slot n k ρ (omega arith)))
        (λ kb. subst (λ z. z < 2 ^ ρ) (sym (get_or-eq_default s.regs 0 (subst (λ z. z ≤ k) (sym regs_long) kb))) (none_small ρ))
        (less_or k ρ);
  }

  has_used : (t : ℕ) → T (has (used_of ρ s.regs ρ) t) → Used n (slot_of s.slot) t
  has_used t u =
      let (tb, d) = used_is ρ s.regs ρ t u in
      let (r, _, v) = some_in ρ (get_or s.regs t 0) (grouped.bytes t) d in
      let (rn, e) = (grouped.members t r tb).0 v in
      (r, rn, e)

  clean : Clean ρ (Used n (slot_of s.slot)) (slot_view ρ φ s.unequal s.result s.ever)
  clean = record {
    apart = λ a b ab bb t. let (p, q) = clean_at ρ used 1 s.unequal ρ passed.apart a b ab t in
        (has_used a (subst (λ z. T (has used z)) (over_one a ∙ mod-eq_of_lt ab) p), has_used b q);
    result = λ f a b c ab bb cb t.
        let E = has (get_or s.result (place ρ f a b) 0) c in
        let fb = ltb→lt f φ (and_l (ltb f φ) E t) in
        let u = and_r (ltb f φ) E t in
        let kb = place_below ρ f a b ab bb φ fb in
        let (p, q) = clean_at ρ used 1 s.result (φ * ρ * ρ) passed.second (place ρ f a b) c kb u in
        let (o, _) = clean_at ρ used ρ s.result (φ * ρ * ρ) passed.first (place ρ f a b) c kb u in (
          has_used a (subst (λ z. T (has used z)) (first_place ρ f a b ab bb) o),
          has_used b
              (subst (λ z. T (has used z)) (over_one (place ρ f a b) ∙ second_place ρ f a b ab bb) p),
          has_used c q,
        );
    ever = λ f a b ab bb t.
        let E = has (get_or s.ever (ρ * f + a) 0) b in
        let fb = ltb→lt f φ (and_l (ltb f φ) E t) in
        let (p, q) = clean_at ρ used 1 s.ever (φ * ρ) passed.ever (ρ * f + a) b (entry_below ρ φ f a fb ab) (and_r (ltb f φ) E t) in
        (has_used a (subst (λ z. T (has used z)) (over_one (ρ * f + a) ∙ along_entry ρ f a ab) p), has_used b q);
  }
    where
      over_one : (k : ℕ) → k / 1 % ρ ≡ k % ρ
      over_one k = let e : k / 1 ≡ k = omega arith in ap (λ z. z % ρ) e

  single : Single ρ (slot_view ρ φ s.unequal s.result s.ever)
  single = record {
    one = λ f a b c d ab bb cb db t u.
        let C = has (get_or s.result (place ρ f a b) 0) c in
        let D = has (get_or s.result (place ρ f a b) 0) d in
        let fb = ltb→lt f φ (and_l (ltb f φ) C t) in
        ⊎_elim (λ e. e) (λ e. absurd (doubled_none ρ 0 s.result (φ * ρ * ρ) (none (doubled_of ρ s.result (φ * ρ * ρ)) passed.single) (place ρ f a b)
        (place_below ρ f a b ab bb φ fb)
        ((many_is ρ (get_or s.result (place ρ f a b) 0)).1 (c, d, cb, db, e, and_r (ltb f φ) C t, and_r (ltb f φ) D u)))) (eq_or c d);
  }
    where
      none : (b : Bool) → T (not b) → b ≡ false
      none true t = absurd t
      none false t = refl

  -- ---- the window that is read

  held : (r : ℕ) → r < ρ → T (has_slot s.slot s.regs r) ↔ (r < n)
  held = held_is ρ n s.slot s.regs low grouped

  class_has : (r q : ℕ) → r < ρ → T (has (get_or (pulled_classes ρ s.slot s.regs) r 0) q) ↔ ((r < n) × (q < n) × (slot_of s.slot r ≡ slot_of s.slot q))
  unfolding pulled_classes
  class_has r q rb = Iff.trans (same_iff
      (ap (λ z. has z q) (table_at (λ r. pick (has_slot s.slot s.regs r) (λ _. get_or s.regs (g r) 0) λ _. 0) ρ r 0 rb)))
      (by_test (has_slot s.slot s.regs r)
      (λ t. let rn = (held r rb).0 (truth (has_slot s.slot s.regs r) t) in
      rw t (Iff.trans (grouped.members (g r) q (low.below r rb)) ((λ (p, e). (rn, p, sym e)), (λ (_, p, e). (p, sym e)))))
      (λ t. rw t ((λ u. absurd (none_in q u)), (λ (rn, _, _). absurd (no_truth (has_slot s.slot s.regs r) t ((held r rb).1 rn))))))

  masks_has : (c : ℕ) (t : List ℕ) (j r q : ℕ) → j < c → r < ρ → q < ρ
      → T (has (get_or (pulled_masks ρ s.slot s.regs t (c * ρ)) (ρ * j + r) 0) q)
      ↔ ((r < n) × (q < n) × T (has (get_or t (ρ * j + slot_of s.slot r) 0) (slot_of s.slot q)))
  unfolding pulled_masks pulled_at
  masks_has c t j r q jb rb qb = Iff.trans
      (same_iff (ap (λ z. has z q) (table_at (pulled_at ρ s.slot s.regs t) (c * ρ) (ρ * j + r) 0 (entry_below ρ c j r jb rb))))
      (rw (line_entry ρ j r rb, along_entry ρ j r rb) (by_test (has_slot s.slot s.regs r)
      (λ u. let rn = (held r rb).0 (truth (has_slot s.slot s.regs r) u) in
      rw u (Iff.trans (pulled_in ρ n s.slot s.regs low grouped (get_or t (ρ * j + g r) 0) q qb) ((λ (p, z). (rn, p, z)), (λ (_, p, z). (p, z)))))
      (λ u. rw u ((λ z. absurd (none_in q z)), (λ (rn, _, _). absurd (no_truth (has_slot s.slot s.regs r) u ((held r rb).1 rn)))))))

  unequal_has : (r q : ℕ) → r < ρ → q < ρ
      → T (has (get_or (pulled_masks ρ s.slot s.regs s.unequal ρ) r 0) q)
      ↔ ((r < n) × (q < n) × T (has (get_or s.unequal (slot_of s.slot r) 0) (slot_of s.slot q)))
  unequal_has r q rb qb =
      let one : 1 * ρ ≡ ρ = omega arith in
      let i : ρ * 0 + r ≡ r = omega arith in
      let j : ρ * 0 + g r ≡ g r = omega arith in
      subst (λ z. T (has (get_or (pulled_masks ρ s.slot s.regs s.unequal z) r 0) q) ↔ ((r < n) × (q < n) × T (has (get_or s.unequal (g r) 0) (g q)))) one
      (subst (λ z. T (has (get_or (pulled_masks ρ s.slot s.regs s.unequal (1 * ρ)) z 0) q)
      ↔ ((r < n) × (q < n) × T (has (get_or s.unequal (g r) 0) (g q)))) i
      (subst (λ z. T (has (get_or (pulled_masks ρ s.slot s.regs s.unequal (1 * ρ)) (ρ * 0 + r) 0) q)
      ↔ ((r < n) × (q < n) × T (has (get_or s.unequal z 0) (g q)))) j (masks_has 1 s.unequal 0 r q (omega arith) rb qb)))

  results_has : (f a b c : ℕ) → f < φ → a < ρ → b < ρ → c < ρ → T (has (get_or (pulled_results ρ s.slot s.regs s.result (φ * ρ * ρ)) (place ρ f a b) 0) c)
      ↔ ((a < n) × (b < n) × (c < n) × T (has (get_or s.result (place ρ f (slot_of s.slot a) (slot_of s.slot b)) 0) (slot_of s.slot c)))
  unfolding pulled_results
  results_has f a b c fb ab bb cb =
      let k = place ρ f a b in
      let kb = place_below ρ f a b ab bb φ fb in
      let f0 = function_place ρ f a b ab bb in
      let f1 = first_place ρ f a b ab bb in
      let f2 = second_place ρ f a b ab bb in
      let E = entry_of ρ s.slot s.regs s.result (place ρ f a b) in
      let there = entry_has ρ n s.slot s.regs low grouped s.result k (g c) (subst (λ z. z < ρ) (sym f1) ab) (subst (λ z. z < ρ) (sym f2) bb) in
      Iff.trans (same_iff (ap (λ z. has z c) (table_at (λ j. pulled_of s.regs (entry_of ρ s.slot s.regs s.result j) ρ) (φ * ρ * ρ) k 0 kb)))
      (Iff.trans (pulled_in ρ n s.slot s.regs low grouped E c cb) (
        (λ (cn, t). let (an, bn, u) = rw (f0, f1, f2) at (there.0 t) in (an, bn, cn, u)),
        (λ (an, bn, cn, u). (cn, there.1 (rw (f0, f1, f2) (an, bn, u)))),
      ))

  marks_has : (r : ℕ) → r < ρ → T (get_or (pulled_marks ρ s.slot s.regs s.mark) r false) ↔ ((r < n) × T (get_or s.mark r false))
  unfolding pulled_marks
  marks_has r rb =
      let H = has_slot s.slot s.regs r in
      let M = get_or s.mark r false in
      Iff.trans (same_iff (table_at (λ r. has_slot s.slot s.regs r && get_or s.mark r false) ρ r false rb))
      ((λ t. ((held r rb).0 (and_l H M t), and_r H M t)), (λ (p, q). and_i H M ((held r rb).1 p) q))

  bytes_table : (F : ℕ → ℕ) (c : ℕ) → ((k : ℕ) → k < c → F k < 2 ^ ρ) → Masks ρ (table F c)
  bytes_table F c f k = ⊎_elim (λ l. rw (table_at F c k 0 l) (f k l)) (λ l. rw (table_out F c k 0 l) (none_small ρ)) (less_or k c)

  masks_bytes : (t : List ℕ) (c : ℕ) → Masks ρ (pulled_masks ρ s.slot s.regs t c)
  unfolding pulled_masks pulled_at
  masks_bytes t c = bytes_table (pulled_at ρ s.slot s.regs t) c
      (λ k kb. by_test (has_slot s.slot s.regs (k % ρ)) (λ u. rw u (pulled_small ρ s.regs (get_or t (ρ * (k / ρ) + g (k % ρ)) 0) ρ grouped.bytes))
      (λ u. rw u (none_small ρ)))

  abbrev w : Window
  w = window_of ρ φ s

  shaped : Shaped ρ φ w
  unfolding pulled_classes pulled_masks pulled_results pulled_marks
  shaped = record {
    class = table_length _ ρ;
    unequal = table_length _ ρ;
    result = table_length _ (φ * ρ * ρ);
    ever = table_length _ (φ * ρ);
    mark = table_length _ ρ;
    class_bytes = bytes_table _ ρ (λ k kb. by_test (has_slot s.slot s.regs k) (λ u. rw u (grouped.bytes (g k))) (λ u. rw u (none_small ρ)));
    unequal_bytes = masks_bytes s.unequal ρ;
    result_bytes = bytes_table _ (φ * ρ * ρ) (λ k kb. pulled_small ρ s.regs (entry_of ρ s.slot s.regs s.result k) ρ grouped.bytes);
    ever_bytes = masks_bytes s.ever (φ * ρ);
  }

  inside : Inside ρ n (view ρ φ w)
  inside = record {
    fits = fits;
    same = λ r q rb qb t. let (p, o, _) = (class_has r q rb).0 t in (p, o);
    apart = λ r q rb qb t. let (p, o, _) = (unequal_has r q rb qb).0 t in (p, o);
    result = λ f a b c ab bb cb t. let E = has (get_or w.result (place ρ f a b) 0) c in
        let (p, q, o, _) = (results_has f a b c (ltb→lt f φ (and_l (ltb f φ) E t)) ab bb cb).0 (and_r (ltb f φ) E t) in (p, q, o);
    ever = λ f a b ab bb t. let E = has (get_or w.ever (ρ * f + a) 0) b in
        let (p, q, _) = (masks_has φ s.ever f a b (ltb→lt f φ (and_l (ltb f φ) E t)) ab bb).0 (and_r (ltb f φ) E t) in (p, q);
    marked = λ r rb t. ((marks_has r rb).0 t).0;
  }

  up : (r : ℕ) → r < n → r < ρ
  up r b = omega (arith, fits)

  pulled : Pulled n (slot_of s.slot) (view ρ φ w) (slot_view ρ φ s.unequal s.result s.ever)
  pulled = record {
    same = λ r q rn qn. Iff.trans (class_has r q (up r rn)) ((λ (_, _, e). e), (λ e. (rn, qn, e)));
    apart = λ r q rn qn. Iff.trans (unequal_has r q (up r rn) (up q qn)) ((λ (_, _, t). t), (λ t. (rn, qn, t)));
    result = λ f a b c an bn cn. by_test (ltb f φ)
        (λ u. rw u (Iff.trans (results_has f a b c (ltb→lt f φ (truth (ltb f φ) u)) (up a an) (up b bn) (up c cn))
        ((λ (_, _, _, t). t), (λ t. (an, bn, cn, t))))) (λ u. rw u ((λ t. t), (λ t. t)));
    ever = λ f a b an bn. by_test (ltb f φ)
        (λ u. rw u (Iff.trans (masks_has φ s.ever f a b (ltb→lt f φ (truth (ltb f φ) u)) (up a an) (up b bn)) ((λ (_, _, t). t), (λ t. (an, bn, t)))))
        (λ u. rw u ((λ t. t), (λ t. t)));
  }

  pub regular_represents : RepresentsWindow ρ φ n s (window_of ρ φ s)
  regular_represents = record {
    mirrors = record {
      shaped = shaped;
      inside = inside;
      laid = record { low = low; regs_long = regs_long; tables = tables; mark_long = mark_long };
      grouped = grouped;
      clean = clean;
      pulled = pulled;
      marked = λ r rn. Iff.trans (marks_has r (up r rn)) ((λ (_, t). t), (λ t. (rn, t)));
      infeasible = refl;
      counted = refl;
    };
    single = single;
  }

-- what the whole test says
pub represents_is : (ρ φ n : ℕ) (v : Window) (s : Slots) → length s.slot ≡ ρ → length s.regs ≡ ρ → SlotTableLengths ρ φ s.unequal s.result s.ever
    → length s.mark ≡ ρ
    → represents_of ρ φ v s n ≡ true → v ≡ window_of ρ φ s → RepresentsWindow ρ φ n s v
unfolding represents_of
represents_is ρ φ n v s a b c d ok e = subst (RepresentsWindow ρ φ n s) (sym e) (by_test (ltb ρ n)
    (λ t. absurd (truth false (rw t at ok)))
    (λ t. by_test (regular_of ρ φ s n)
    (λ u. regular_represents ρ φ n s (ltb-false ρ n t) a b c d (truth (regular_of ρ φ s n) u))
    (λ u. absurd (truth false (rw (t, u) at ok)))))
