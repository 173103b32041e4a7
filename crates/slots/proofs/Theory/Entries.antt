-- The window of slots: the masks of registers that the masks of slots stand for.
use mathlib.Core.Path.{◌≡◌, refl, sym, ap, ◌∙◌, subst}
use mathlib.Core.Logic.Iff
use mathlib.Core.Logic.{inl, inr, ◌↔◌, ⊎_elim}
use mathlib.Core.Bool.{false, cond, ◌&&◌}
use mathlib.Core.List.{List}
use Prim.Native.Nat.{ℕ, zero, suc, ◌+◌, ◌*◌, ◌/◌, ◌%◌, ◌^◌, ◌<◌}
use native.Mathlib.Omega.{arith}
use native.Mathlib.Nat.{mod-lt}
use lib.Dec.{ltb, T, lt→ltb}
use lib.ListN.{length, get_or}
use borrow.Author.Tests.{lt-ltb}
use Rattle.base.proofs.Theory.Choice.{by_test}
use Rattle.base.specs.Choice.{pick}
use Rattle.base.specs.Masks.{has}
use Rattle.base.proofs.Theory.MaskLaws.{bits_same}
use Rattle.semantics.proofs.Theory.Booleans.{and_l, and_r, and_i}
use Rattle.semantics.proofs.Theory.Of.{same_test}
use Rattle.window.proofs.Theory.Bits.{truth, no_truth, none_small, none_in, or_is, or_small, same_iff, eq_or}
use Rattle.window.specs.Places.{place, place_function, place_first, place_second}
use Rattle.window.proofs.Theory.Places.{entry_is, place_is, some, line_below, function_below, first_below, second_below}
use Rattle.window.proofs.Theory.Table.{table_is}
use Rattle.window.specs.Adding.{part_of}
use Rattle.window.specs.Viewing.{view, Masks}
use Rattle.window.proofs.Theory.Copying.{cell_result, result_cell}
use Rattle.window.proofs.Theory.Uniqueness.{bit_same}
use Rattle.window.specs.Counting.{counted_classes}
use Rattle.window.specs.declared.Window.{Window}
use Rattle.slots.specs.Slots.{Slots, slot_of, Low}
use Rattle.slots.specs.Performing.{has_slot, pulled_of, entry_of, pulled_at, pulled_masks, pulled_results, pulled_classes, pulled_marks, window_of}
use Rattle.slots.specs.Represents.{Grouped, Mirrors}
use Rattle.slots.proofs.Theory.Marking.{low, class_is, slot_cell}
use Rattle.slots.proofs.Theory.Room.{some_in}

pub part_is : (m what k r : ℕ) → T (has (part_of m what k) r) ↔ (T (has m k) × T (has what r))
unfolding part_of
part_is m what k r = by_test (has m k) (λ t. rw t ((λ u. (tt, u)), (λ (_, u). u))) (λ t. rw t ((λ u. absurd (none_in r u)), (λ (p, _). absurd p)))

-- the registers of the slots of a mask
pub pulled_is : (regs : List ℕ) (m k r : ℕ) → T (has (pulled_of regs m k) r) ↔ ((s : ℕ) × (s < k) × T (has m s) × T (has (get_or regs s 0) r))
unfolding pulled_of
pulled_is regs m zero r = ((λ t. absurd (none_in r t)), (λ (s, b, _, _). absurd (omega arith)))
pulled_is regs m (suc k) r = Iff.trans (or_is (pulled_of regs m k) (part_of m (get_or regs k 0) k) r) (
  (λ t. ⊎_elim (λ u. let (s, b, p, q) = (pulled_is regs m k r).0 u in (s, omega arith, p, q))
      (λ u. let (p, q) = (part_is m (get_or regs k 0) k r).0 u in (k, omega arith, p, q)) t),
  (λ (s, b, p, q). ⊎_elim
      (λ e. inr ((part_is m (get_or regs k 0) k r).1 (subst (λ z. T (has m z)) e p, subst (λ z. T (has (get_or regs z 0) r)) e q)))
      (λ e. inl ((pulled_is regs m k r).1 (s, omega arith, p, q)))
      (eq_or s k)),
)

pub pulled_small : (ρ : ℕ) (regs : List ℕ) (m k : ℕ) → Masks ρ regs → pulled_of regs m k < 2 ^ ρ
unfolding pulled_of part_of
pulled_small ρ regs m zero f = none_small ρ
pulled_small ρ regs m (suc k) f =
    or_small ρ (pulled_of regs m k) (cond (has m k) (get_or regs k 0) 0) (pulled_small ρ regs m k f)
    (by_test (has m k) (λ t. rw t (f k)) (λ t. rw t (none_small ρ)))

-- a mask with nothing in it
pub nothing : (ρ m : ℕ) → m < 2 ^ ρ → ((c : ℕ) → c < ρ → ¬ T (has m c)) → m ≡ 0
nothing ρ m b n = ⊎_elim (λ e. e) (λ d. let (c, cb, t) = some_in ρ m b d in absurd (n c cb t)) (eq_or m 0)

module _ (ρ n : ℕ) (slot regs : List ℕ) (lo : Low ρ slot) (k : Grouped ρ n slot regs) where
  pub held_is : (r : ℕ) → r < ρ → T (has_slot slot regs r) ↔ (r < n)
  unfolding has_slot
  held_is r rb = Iff.trans (k.members (slot_of slot r) r (lo.below r rb)) ((λ (h, _). h), (λ h. (h, refl)))

  pub pulled_in : (m r : ℕ) → r < ρ → T (has (pulled_of regs m ρ) r) ↔ ((r < n) × T (has m (slot_of slot r)))
  pulled_in m r rb = Iff.trans (pulled_is regs m ρ r) (
    (λ (s, sb, p, q). let (h, e) = (k.members s r sb).0 q in (h, subst (λ z. T (has m z)) (sym e) p)),
    (λ (h, p). (slot_of slot r, lo.below r rb, p, (k.members (slot_of slot r) r (lo.below r rb)).1 (h, refl))),
  )

  pub entry_has : (result : List ℕ) (j c : ℕ) → place_first ρ j < ρ → place_second ρ j < ρ
      → T (has (entry_of ρ slot regs result j) c)
      ↔ ((place_first ρ j < n) × (place_second ρ j < n)
      × T (has (get_or result (place ρ (place_function ρ j) (slot_of slot (place_first ρ j)) (slot_of slot (place_second ρ j))) 0) c))
  unfolding entry_of
  entry_has result j c ab bb = by_test (has_slot slot regs (place_first ρ j) && has_slot slot regs (place_second ρ j))
      (λ t. let u = truth (has_slot slot regs (place_first ρ j) && has_slot slot regs (place_second ρ j)) t in rw t (
        (λ q. (
          (held_is (place_first ρ j) ab).0 (and_l (has_slot slot regs (place_first ρ j)) (has_slot slot regs (place_second ρ j)) u),
          (held_is
              (place_second ρ j) bb).0 (and_r (has_slot slot regs (place_first ρ j)) (has_slot slot regs (place_second ρ j)) u),
          q,
        )),
        (λ (_, _, q). q),
      ))
      (λ t. rw t (
        (λ q. absurd (none_in c q)),
        (λ (p, q, _). absurd (no_truth (has_slot slot regs (place_first ρ j) && has_slot slot regs (place_second ρ j)) t
            (and_i (has_slot slot regs (place_first ρ j)) (has_slot slot regs (place_second ρ j)) ((held_is (place_first ρ j) ab).1 p)
            ((held_is (place_second ρ j) bb).1 q)))),
      ))

  -- a table of masks of which a table of slots says the same
  masks_pulled : (c : ℕ) (l t : List ℕ) → length l ≡ c * ρ → Masks ρ l
      → ((j r q : ℕ) → j < c → r < ρ → q < ρ
      → T (has (get_or l (ρ * j + r) 0) q) ↔ ((r < n) × (q < n) × T (has (get_or t (ρ * j + slot_of slot r) 0) (slot_of slot q))))
      → l ≡ pulled_masks ρ slot regs t (c * ρ)
  unfolding pulled_masks pulled_at
  masks_pulled c l t long small h =
      table_is (λ i. pick (has_slot slot regs (i % ρ)) (λ _. pulled_of regs (get_or t (ρ * (i / ρ) + slot_of slot (i % ρ)) 0) ρ) λ _. 0)
      (c * ρ) l 0 long (λ i ib.
      let rb = mod-lt i (some ρ c i ib) in
      let jb = line_below ρ c i ib in
      let e = entry_is ρ i in
      by_test (has_slot slot regs (i % ρ))
      (λ u. let rn = (held_is (i % ρ) rb).0 (truth (has_slot slot regs (i % ρ)) u) in
      rw u (bits_same ρ (get_or l i 0) (pulled_of regs (get_or t (ρ * (i / ρ) + slot_of slot (i % ρ)) 0) ρ) (small i)
      (pulled_small ρ regs (get_or t (ρ * (i / ρ) + slot_of slot (i % ρ)) 0) ρ k.bytes) (λ q qb.
      bit_same (get_or l i 0) (pulled_of regs (get_or t (ρ * (i / ρ) + slot_of slot (i % ρ)) 0) ρ) q
      (same_test (has (get_or l i 0) q) (has (pulled_of regs (get_or t (ρ * (i / ρ) + slot_of slot (i % ρ)) 0) ρ) q) (
        (λ p. let (_, qn, z) = (h (i / ρ) (i % ρ) q jb rb qb).0 (subst (λ o. T (has (get_or l o 0) q)) (sym e) p) in
            (pulled_in (get_or t (ρ * (i / ρ) + slot_of slot (i % ρ)) 0) q qb).1 (qn, z)),
        (λ p. let (qn, z) = (pulled_in (get_or t (ρ * (i / ρ) + slot_of slot (i % ρ)) 0) q qb).0 p in
            subst (λ o. T (has (get_or l o 0) q)) e ((h (i / ρ) (i % ρ) q jb rb qb).1 (rn, qn, z))),
      )))))
      (λ u. rw u (nothing ρ (get_or l i 0) (small i)
      (λ q qb p. no_truth (has_slot slot regs (i % ρ)) u
      ((held_is (i % ρ) rb).1 ((h (i / ρ) (i % ρ) q jb rb qb).0 (subst (λ o. T (has (get_or l o 0) q)) (sym e) p)).0)))))

module _ (ρ φ n : ℕ) (s : Slots) (w : Window) (m : Mirrors ρ φ n s w) where
  -- an entry of the window's table of results
  pub result_is : (j : ℕ) → j < φ * ρ * ρ → (r : ℕ) → r < ρ
      → T (has (get_or w.result j 0) r) ↔ ((r < n) × T (has (entry_of ρ s.slot s.regs s.result j) (slot_of s.slot r)))
  result_is j jb r rb =
      let ab = first_below ρ φ j jb in
      let bb = second_below ρ φ j jb in
      let E = entry_has ρ n s.slot s.regs m.laid.low m.grouped s.result j (slot_of s.slot r) ab bb in (
        (λ t. let u = cell_result ρ φ w j r jb t in
            let (an, bn, rn) = m.inside.result (place_function ρ j) (place_first ρ j) (place_second ρ j) r ab bb rb u in (
              rn,
              E.1 (
                an,
                bn,
                (slot_cell ρ φ n s w m (place_function ρ j) (slot_of s.slot (place_first ρ j)) (slot_of s.slot (place_second ρ j))
                    (slot_of s.slot r) (low ρ φ n s w m (place_first ρ j) an) (low ρ φ n s w m (place_second ρ j) bn)
                    ((m.pulled.result (place_function ρ j) (place_first ρ j) (place_second ρ j) r an bn rn).0 u)).1,
              ),
            )),
        (λ (rn, t). let (an, bn, u) = E.0 t in
            let v = (m.pulled.result (place_function ρ j) (place_first ρ j) (place_second ρ j) r an bn rn).1
            (rw (lt-ltb (place_function ρ j) φ (function_below ρ φ j jb)) u) in
            subst (λ z. T (has (get_or w.result z 0) r)) (place_is ρ j)
            (result_cell ρ φ w (place_function ρ j) (place_first ρ j) (place_second ρ j) r ab bb v).1),
      )

  pub result_pulled : (j : ℕ) → j < φ * ρ * ρ → get_or w.result j 0 ≡ pulled_of s.regs (entry_of ρ s.slot s.regs s.result j) ρ
  result_pulled j jb = bits_same ρ A B (m.shaped.result_bytes j)
      (pulled_small ρ s.regs (entry_of ρ s.slot s.regs s.result j) ρ m.grouped.bytes) (λ r rb. bit_same A B r (same_test (has A r) (has B r) (
        (λ t. (pulled_in ρ n s.slot s.regs m.laid.low m.grouped (entry_of ρ s.slot s.regs s.result j) r rb).1 ((result_is j jb r rb).0 t)),
        (λ t. (result_is j jb r rb).1 ((pulled_in ρ n s.slot s.regs m.laid.low m.grouped (entry_of ρ s.slot s.regs s.result j) r rb).0 t)),
      )))
    where
      A : ℕ
      A = get_or w.result j 0

      B : ℕ
      B = pulled_of s.regs (entry_of ρ s.slot s.regs s.result j) ρ

  class_pulled : w.class ≡ pulled_classes ρ s.slot s.regs
  unfolding pulled_classes
  class_pulled = table_is (λ r. pick (has_slot s.slot s.regs r) (λ _. get_or s.regs (slot_of s.slot r) 0) λ _. 0) ρ w.class 0 m.shaped.class
      (λ r rb. by_test (has_slot s.slot s.regs r)
      (λ u. rw u (class_is ρ φ n s w m r ((held r rb).0 (truth (has_slot s.slot s.regs r) u))))
      (λ u. rw u (nothing ρ (get_or w.class r 0) (m.shaped.class_bytes r)
      (λ q qb p. no_truth (has_slot s.slot s.regs r) u ((held r rb).1 (m.inside.same r q rb qb p).0)))))
    where
      held : (r : ℕ) → r < ρ → T (has_slot s.slot s.regs r) ↔ (r < n)
      held = held_is ρ n s.slot s.regs m.laid.low m.grouped

  unequal_pulled : w.unequal ≡ pulled_masks ρ s.slot s.regs s.unequal ρ
  unequal_pulled = subst (λ z. w.unequal ≡ pulled_masks ρ s.slot s.regs s.unequal z) (omega arith)
      (masks_pulled ρ n s.slot s.regs m.laid.low m.grouped 1 w.unequal s.unequal (omega (arith, m.shaped.unequal))
      m.shaped.unequal_bytes
      (λ j r q jb rb qb. Iff.trans (same_iff (ap (λ z. has (get_or w.unequal z 0) q) (zero_line j r jb))) (
        (λ t. let (rn, qn) = m.inside.apart r q rb qb t in (
          rn,
          qn,
          subst (λ z. T (has (get_or s.unequal z 0) (slot_of s.slot q))) (sym (zero_line j (slot_of s.slot r) jb))
              ((m.pulled.apart r q rn qn).0 t),
        )),
        (λ (rn, qn, t). (m.pulled.apart r q rn qn).1
            (subst (λ z. T (has (get_or s.unequal z 0) (slot_of s.slot q))) (zero_line j (slot_of s.slot r) jb) t)),
      )))
    where
      zero_line : (j r : ℕ) → j < 1 → ρ * j + r ≡ r
      zero_line j r jb = let e : j ≡ 0 = omega arith in ap (λ z. ρ * z + r) e ∙ omega arith

  ever_pulled : w.ever ≡ pulled_masks ρ s.slot s.regs s.ever (φ * ρ)
  ever_pulled = masks_pulled ρ n s.slot s.regs m.laid.low m.grouped φ w.ever s.ever m.shaped.ever m.shaped.ever_bytes
      (λ j r q jb rb qb. (
        (λ t. let u : T ((view ρ φ w).ever j r q) = rw (lt-ltb j φ jb) t in
            let (rn, qn) = m.inside.ever j r q rb qb u in
            (rn, qn, and_r (ltb j φ) (has (get_or s.ever (ρ * j + slot_of s.slot r) 0) (slot_of s.slot q)) ((m.pulled.ever j r q rn qn).0 u))),
        (λ (rn, qn, t). and_r (ltb j φ) (has (get_or w.ever (ρ * j + r) 0) q)
            ((m.pulled.ever j r q rn qn).1 (and_i (ltb j φ) (has (get_or s.ever (ρ * j + slot_of s.slot r) 0) (slot_of s.slot q)) (lt→ltb j φ jb) t))),
      ))

  results_pulled : w.result ≡ pulled_results ρ s.slot s.regs s.result (φ * ρ * ρ)
  unfolding pulled_results
  results_pulled = table_is (λ j. pulled_of s.regs (entry_of ρ s.slot s.regs s.result j) ρ) (φ * ρ * ρ) w.result 0
      m.shaped.result result_pulled

  marks_pulled : w.mark ≡ pulled_marks ρ s.slot s.regs s.mark
  unfolding pulled_marks
  marks_pulled = table_is (λ r. has_slot s.slot s.regs r && get_or s.mark r false) ρ w.mark false m.shaped.mark
      (λ r rb. same_test (get_or w.mark r false) (has_slot s.slot s.regs r && get_or s.mark r false) (
        (λ t. let rn = m.inside.marked r rb t in and_i (has_slot s.slot s.regs r) (get_or s.mark r false) ((held r rb).1 rn) ((m.marked r rn).0 t)),
        (λ t. (m.marked r ((held r rb).0 (and_l (has_slot s.slot s.regs r) (get_or s.mark r false) t))).1
            (and_r (has_slot s.slot s.regs r) (get_or s.mark r false) t)),
      ))
    where
      held : (r : ℕ) → r < ρ → T (has_slot s.slot s.regs r) ↔ (r < n)
      held = held_is ρ n s.slot s.regs m.laid.low m.grouped

  -- the window is read back
  pub window_is : window_of ρ φ s ≡ w
  window_is = sym (λ k. record {
    class = class_pulled k;
    unequal = unequal_pulled k;
    result = results_pulled k;
    ever = ever_pulled k;
    mark =
        marks_pulled k;
    infeasible = m.infeasible k;
    classes = (m.counted ∙ ap (counted_classes ρ) class_pulled) k;
  })
