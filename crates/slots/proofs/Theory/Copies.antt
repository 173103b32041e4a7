-- A copy on slots is a copy on the window.
use mathlib.Core.Path.{◌≡◌, refl, sym, ap, ◌∙◌, subst}
use mathlib.Core.Logic.Iff
use mathlib.Core.Logic.{◌⊎◌, inl, inr, ◌↔◌, ◌≢◌, ⊎_elim}
use mathlib.Core.Bool.{Bool, true, false, cond, ◌||◌}
use mathlib.Core.List.{List}
use Prim.Native.Nat.{ℕ, ◌^◌, ◌<◌}
use lib.Dec.{eqb, T}
use lib.Bits.{bit_or}
use lib.ListN.{length, get_or, set, length-set}
use lib.Seq.{get_or-set_same, get_or-set_other}
use borrow.Author.Tests.{eqb-true, eqb-false}
use Rattle.base.proofs.Theory.Choice.{by_test}
use Rattle.base.specs.Masks.{has}
use Rattle.base.specs.LeastAndSize.{size_of}
use Rattle.semantics.proofs.Theory.Booleans.{or_e, or_l, or_r}
use Rattle.semantics.specs.View.{View}
use Rattle.semantics.proofs.Theory.Steps.{copied}
use Rattle.window.proofs.Theory.Bits.{none_small, none_in, same_iff, eq_or}
use Rattle.window.proofs.Theory.Table.{table_at}
use Rattle.window.specs.Marks.{lost_of}
use Rattle.window.proofs.Theory.Marks.{Beneath}
use Rattle.window.specs.Adding.{masks_forgotten}
use Rattle.window.specs.Performing as windows
use Rattle.window.specs.Performing.{fallen_of, copied_tables}
use Rattle.window.proofs.Theory.Laws.{Laws}
use Rattle.window.specs.Viewing.{view}
use Rattle.window.proofs.Theory.Copying.{copied_same, copied_other, fallen_is, marked_copied, renamed_copied, inside_copied}
use Rattle.window.proofs.Theory.Shape.{shaped_tables}
use Rattle.window.specs.Counting.{counted_classes}
use Rattle.window.proofs.Theory.Counted.{partition_of, counted_tables}
use Rattle.window.specs.declared.Window.{Window}
use Rattle.slots.specs.Slots.{Slots, slot_of}
use Rattle.slots.specs.Performing.{placed, with_mark, marks_in, results_dropped, dropped_slots, left_slots, copied_slots}
use Rattle.slots.proofs.Theory.Laying.{laid_placed, laid_left, LaidIn}
use Rattle.slots.specs.Represents.{Used, Single, slot_view, Mirrors, RepresentsWindow}
use Rattle.slots.proofs.Theory.Pulling.{laws_pulled, pulled_copied, alike_same, alike_dropped, clean_dropped, clean_kept, single_dropped, Dropped}
use Rattle.slots.proofs.Theory.Tables.{dropped}
use Rattle.slots.proofs.Theory.Marking.{one_more, up, low, one_slot, only, alone_is, lost_is}
use Rattle.slots.proofs.Theory.Moving.{at_same, keep, grouped_moved, keep_all}

pub marks_at : (ρ : ℕ) (slot : List ℕ) (mark : List Bool) (lost q : ℕ) → q < ρ
    → get_or (marks_in ρ slot mark lost) q false ≡ (get_or mark q false || has lost (slot_of slot q))
unfolding marks_in
marks_at ρ slot mark lost q qb = table_at (λ r. get_or mark r false || has lost (slot_of slot r)) ρ q false qb

module _ (ρ φ n : ℕ) (s : Slots) (w : Window) (m : Mirrors ρ φ n s w) (o : Single ρ (slot_view ρ φ s.unequal s.result s.ever)) (x y : ℕ) (xb : x < n)
    (yb : y < n) where
  abbrev g : ℕ → ℕ
  g = slot_of s.slot

  abbrev K : View
  K = slot_view ρ φ s.unequal s.result s.ever

  abbrev w' : Window
  w' = copied_tables ρ φ w x y

  laws : Laws n (view ρ φ w)
  laws = laws_pulled n g (view ρ φ w) K m.pulled

  module _ (d : slot_of s.slot x ≢ slot_of s.slot y) where
    abbrev g' : ℕ → ℕ
    g' = slot_of (set s.slot x (slot_of s.slot y))

    apart : x ≢ y
    apart e = d (ap g e)

    here : slot_of (set s.slot x (slot_of s.slot y)) x ≡ slot_of s.slot y
    here = at_same ρ n s.slot s.regs x (g y) m.inside.fits m.laid.low m.laid.regs_long m.grouped xb (low ρ φ n s w m y yb)

    there : (r : ℕ) → r ≢ x → slot_of (set s.slot x (slot_of s.slot y)) r ≡ slot_of s.slot r
    there r i = get_or-set_other s.slot x r (g y) 0 i

    source : (r : ℕ) → r < n → copied x y r < n
    source r rb = elim (eqb r x) as (λ k. cond k y r < n) [ true ↦ yb | false ↦ rb ]

    -- what a register is read as is not x
    not_x : (r : ℕ) → copied x y r ≢ x
    not_x r e = ⊎_elim (λ i. apart (sym (sym (copied_same x y) ∙ ap (copied x y) (sym i) ∙ e))) (λ i. i (sym (copied_other x y r i) ∙ e)) (eq_or r x)

    slot-of : (r : ℕ) → r < n → slot_of s.slot (copied x y r) ≡ slot_of (set s.slot x (slot_of s.slot y)) r
    slot-of r rb = ⊎_elim
        (λ e. ap (λ k. g (copied x y k)) e ∙ ap g (copied_same x y) ∙ sym (ap g' e ∙ here))
        (λ e. ap g (copied_other x y r e) ∙ sym (there r e))
        (eq_or r x)

    -- the marks of a window after the copy
    module _ (next : Slots) (long : length next.mark ≡ ρ)
        (at_mark : (q : ℕ) → q < n → q ≢ x
        → (T ((view ρ φ w).marked q) ⊎ T (has (fallen_of ρ φ (get_or w.class x 0) w.result x 0) q)) ↔ T (get_or next.mark q false)) where
      marks : (r : ℕ) → r < n → T ((view ρ φ (copied_tables ρ φ w x y)).marked r) ↔ T (get_or (set next.mark x (get_or next.mark y false)) r false)
      marks r rb =
          let F = fallen_of ρ φ (get_or w.class x 0) w.result x 0 in
          let q = copied x y r in
          Iff.trans (same_iff (marked_copied ρ φ w m.shaped x y (up ρ φ n s w m x xb) (up ρ φ n s w m y yb) r (up ρ φ n s w m r rb)))
          (Iff.trans (
            (λ t. or_e ((view ρ φ w).marked q) (has F q) t),
            (λ k. ⊎_elim (or_l ((view ρ φ w).marked q) (has F q)) (or_r ((view ρ φ w).marked q) (has F q)) k),
          )
          (Iff.trans (at_mark q (source r rb) (not_x r)) (same_iff (sym (moved r)))))
        where
          moved : (r : ℕ) → get_or (set next.mark x (get_or next.mark y false)) r false ≡ get_or next.mark (copied x y r) false
          moved r = ⊎_elim
              (λ e. ap (λ k. get_or (set next.mark x (get_or next.mark y false)) k false) e
              ∙ get_or-set_same next.mark x (get_or next.mark y false) false (subst (λ k. x < k) (sym long) (up ρ φ n s w m x xb))
              ∙ ap (λ k. get_or next.mark k false) (sym (ap (copied x y) e ∙ copied_same x y)))
              (λ e. get_or-set_other next.mark x r (get_or next.mark y false) false e ∙ ap (λ k. get_or next.mark k false) (sym (copied_other x y r e)))
              (eq_or r x)

    counts : (copied_tables ρ φ w x y).classes ≡ counted_classes ρ (copied_tables ρ φ w x y).class
    counts = counted_tables ρ φ w m.shaped n (partition_of ρ φ n w laws m.inside) m.counted x y xb yb (λ t. d ((m.pulled.same x y xb yb).0 t))

    kept_infeasible : w'.infeasible ≡ w.infeasible
    unfolding copied_tables
    kept_infeasible = refl

    fall : (q : ℕ) → T (has (fallen_of ρ φ (get_or w.class x 0) w.result x 0) q) ↔ ((size_of ρ (get_or w.class x 0) ≡ 1) × Beneath ρ φ w.result x 0 q)
    fall = fallen_is ρ φ (get_or w.class x 0) w.result x 0 (up ρ φ n s w m x xb) (none_small ρ)

    abbrev P : Slots
    P = placed s x (slot_of s.slot y)

    abbrev E : Slots
    E = dropped_slots ρ φ (placed s x (slot_of s.slot y)) (slot_of s.slot x) 0

    laid_p : LaidIn ρ φ (placed s x (slot_of s.slot y))
    laid_p = laid_placed ρ φ s x (g y) (up ρ φ n s w m x xb) (low ρ φ n s w m y yb) m.laid

    -- the slot of x is empty
    emptied : get_or s.regs (slot_of s.slot x) 0 ≡ 2 ^ x
        → RepresentsWindow ρ φ n (with_mark E (set E.mark x (get_or E.mark y false))) (copied_tables ρ φ w x y)
    unfolding dropped_slots left_slots
    emptied e = record {
      mirrors = record {
        shaped = shaped_tables ρ φ w x y (up ρ φ n s w m x xb) m.shaped;
        inside = inside_copied ρ φ w m.shaped n laws m.inside x y xb yb apart;
        laid = record { low = lay.low; regs_long = lay.regs_long; tables = lay.tables; mark_long = simp length-set lay.mark_long };
        grouped = grouped_moved ρ n s.slot s.regs x (g y) m.inside.fits m.laid.low m.laid.regs_long m.grouped xb (low ρ φ n s w m y yb)
            (λ i. d (sym i));
        clean = clean_dropped ρ (g x) (Used n g) (Used n g') K Q m.clean
            (keep ρ n s.slot s.regs x (g y) m.inside.fits m.laid.low m.laid.regs_long m.grouped xb (low ρ φ n s w m y yb)) gone;
        pulled = pulled_copied n g g' (copied x y) (view ρ φ w) (view ρ φ w') K Q m.pulled source slot-of
            (renamed_copied ρ φ w m.shaped n laws m.inside x y xb yb apart)
            (alike_dropped ρ n (g x) g' K Q (λ r rb. (lay.low.below r (up ρ φ n s w m r rb), not_gone r rb)) gone);
        marked = marks E lay.mark_long at_mark;
        infeasible = kept_infeasible ∙ m.infeasible;
        counted = counts;
      };
      single = single_dropped ρ (g x) K Q o gone;
    }
      where
        lay : LaidIn ρ φ (left_slots ρ φ (placed s x (slot_of s.slot y)) (slot_of s.slot x) true)
        lay = laid_left ρ φ P (g x) true laid_p

        Q : View
        Q = slot_view ρ φ (masks_forgotten ρ (slot_of s.slot x) s.unequal) (results_dropped ρ (slot_of s.slot x) s.result)
            (masks_forgotten ρ (slot_of s.slot x) s.ever)

        gone : Dropped ρ (slot_of s.slot x) (slot_view ρ φ s.unequal s.result s.ever)
            (slot_view ρ φ (masks_forgotten ρ (slot_of s.slot x) s.unequal) (results_dropped ρ (slot_of s.slot x) s.result)
            (masks_forgotten ρ (slot_of s.slot x) s.ever))
        gone = dropped ρ φ s.unequal s.result s.ever m.laid.tables.unequal_long m.laid.tables.result_long m.laid.tables.ever_long
            (slot_of s.slot x)

        not_gone : (r : ℕ) → r < n → slot_of (set s.slot x (slot_of s.slot y)) r ≢ slot_of s.slot x
        not_gone r rb h = ⊎_elim (λ i. d (sym h ∙ ap g' i ∙ here)) (λ i. i (only ρ φ n s w m x xb e r rb (sym (there r i) ∙ h))) (eq_or r x)

        lost : ℕ
        lost = bit_or (lost_of ρ φ s.result (slot_of s.slot x) 0) (2 ^ slot_of s.slot x)

        at_mark : (q : ℕ) → q < n → q ≢ x
            → (T ((view ρ φ w).marked q) ⊎ T (has (fallen_of ρ φ (get_or w.class x 0) w.result x 0) q))
            ↔ T (get_or (marks_in ρ (set s.slot x (slot_of s.slot y)) s.mark
            (bit_or (lost_of ρ φ s.result (slot_of s.slot x) 0) (2 ^ slot_of s.slot x))) q false)
        at_mark q qb i =
            let below = Iff.trans (lost_is ρ φ n s w m x 0 0 xb (only ρ φ n s w m x xb e)
            (λ r rb. ((λ t. absurd (none_in r t)), (λ t. absurd (none_in (g r) t)))) (none_small ρ) q qb)
            (one_more (lost_of ρ φ s.result (g x) 0) (g x) (g q) (λ h. i (only ρ φ n s w m x xb e q qb h))) in
            let here' : get_or (marks_in ρ (set s.slot x (slot_of s.slot y)) s.mark lost) q false ≡ (get_or s.mark q false || has lost (g q)) =
            marks_at ρ (set s.slot x (g y)) s.mark lost q (up ρ φ n s w m q qb) ∙ ap (λ k. get_or s.mark q false || has lost k) (there q i) in (
              (λ k. subst T (sym here') (⊎_elim (λ t. or_l (get_or s.mark q false) (has lost (g q)) ((m.marked q qb).0 t))
                  (λ t. or_r (get_or s.mark q false) (has lost (g q)) (below.0 ((fall q).0 t).1)) k)),
              (λ k. ⊎_elim (λ t. inl ((m.marked q qb).1 t)) (λ t. inr ((fall q).1 ((alone_is ρ φ n s w m x xb).1 e, below.1 t)))
                  (or_e (get_or s.mark q false) (has lost (g q)) (subst T here' k))),
            )

    -- others are left in it
    shared : get_or s.regs (slot_of s.slot x) 0 ≢ 2 ^ x
        → RepresentsWindow ρ φ n (with_mark P (set P.mark x (get_or P.mark y false))) (copied_tables ρ φ w x y)
    shared e = record {
      mirrors = record {
        shaped = shaped_tables ρ φ w x y (up ρ φ n s w m x xb) m.shaped;
        inside = inside_copied ρ φ w m.shaped n laws m.inside x y xb yb apart;
        laid = record { low = laid_p.low; regs_long = laid_p.regs_long; tables = laid_p.tables; mark_long = simp length-set laid_p.mark_long };
        grouped = grouped_moved ρ n s.slot s.regs x (g y) m.inside.fits m.laid.low m.laid.regs_long m.grouped xb (low ρ φ n s w m y yb)
            (λ i. d (sym i));
        clean = clean_kept ρ (Used n g) (Used n g') K m.clean (keep_all ρ φ n s w m x (g y) xb e);
        pulled = pulled_copied n g g' (copied x y) (view ρ φ w) (view ρ φ w') K K m.pulled source slot-of
            (renamed_copied ρ φ w m.shaped n laws m.inside x y xb yb apart) (alike_same n g' K);
        marked = marks P m.laid.mark_long (λ q qb i. (
          (λ k. ⊎_elim (λ t. (m.marked q qb).0 t) (λ t. absurd (e ((alone_is ρ φ n s w m x xb).0 ((fall q).0 t).0))) k),
          (λ k. inl ((m.marked q qb).1 k)),
        ));
        infeasible = kept_infeasible ∙ m.infeasible;
        counted = counts;
      };
      single = o;
    }

pub copied_represents : (ρ φ n : ℕ) (s : Slots) (w : Window) → RepresentsWindow ρ φ n s w → (x y : ℕ) → x < n → y < n
    → RepresentsWindow ρ φ n (copied_slots ρ φ s x y) (windows.copied_of ρ φ w x y)
unfolding copied_slots left_slots windows.copied_of
copied_represents ρ φ n s w h x y xb yb =
    let m = h.mirrors in
    by_test (eqb (slot_of s.slot x) (slot_of s.slot y))
    (λ t. rw (t, one_slot ρ φ n s w m x y xb yb ∙ t) h)
    (λ t. let d = eqb-false (slot_of s.slot x) (slot_of s.slot y) t in
    rw (t, one_slot ρ φ n s w m x y xb yb ∙ t) (by_test (eqb (get_or s.regs (slot_of s.slot x) 0) (2 ^ x))
    (λ u. rw u (emptied ρ φ n s w m h.single x y xb yb d (eqb-true (get_or s.regs (slot_of s.slot x) 0) (2 ^ x) u)))
    (λ u. rw u (shared ρ φ n s w m h.single x y xb yb d (eqb-false (get_or s.regs (slot_of s.slot x) 0) (2 ^ x) u)))))
