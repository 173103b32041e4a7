-- Two slots made one on slots are two classes made one on the window.
use mathlib.Core.Path.{◌≡◌, refl, sym, ap, ◌∙◌, subst}
use mathlib.Core.Logic.Iff
use mathlib.Core.Logic.{inl, inr, ◌↔◌, ◌≢◌, ⊎_elim}
use mathlib.Core.Bool.{false}
use mathlib.Core.List.{List}
use Prim.Native.Nat.{ℕ, ◌<◌}
use lib.Dec.{T}
use lib.Bits.{bit_or}
use lib.ListN.{get_or, set, length-set}
use lib.Seq.{get_or-set_same, get_or-set_other}
use Rattle.base.specs.Masks.{has}
use Rattle.semantics.specs.View.{View}
use Rattle.window.proofs.Theory.Bits.{none_in, none_small, or_is, or_small, same_iff, eq_or}
use Rattle.window.specs.Performing as windows
use Rattle.window.proofs.Theory.Laws.{Laws}
use Rattle.window.specs.Viewing.{view}
use Rattle.window.proofs.Theory.Merging.{merged, inside_merged}
use Rattle.window.proofs.Theory.Shape.{shaped_merged}
use Rattle.window.specs.Counting.{counted_classes}
use Rattle.window.proofs.Theory.Merge.{laws_merged}
use Rattle.window.proofs.Theory.Counted.{partition_of, counted_merges}
use Rattle.window.specs.declared.Window.{Window}
use Rattle.slots.specs.Slots.{Slots, slot_of}
use Rattle.slots.specs.Performing.{slot_renamed, masks_renamed, results_renamed, merged_slots}
use Rattle.slots.proofs.Theory.Laying.{LaidIn, laid_merged, renamed_at}
use Rattle.slots.specs.Represents.{Grouped, slot_view, Mirrors}
use Rattle.slots.proofs.Theory.Pulling.{laws_pulled, called, called_same, called_other, Called, pulled_merged, clean_merged}
use Rattle.slots.proofs.Theory.Tables.{called_tables}
use Rattle.slots.proofs.Theory.Marking.{up, low}
use Rattle.slots.proofs.Theory.Moving.{bytes_set}

module _ (ρ φ n : ℕ) (s : Slots) (w : Window) (m : Mirrors ρ φ n s w) (x y : ℕ) (xb : x < n) (yb : y < n) (d : slot_of s.slot x ≢ slot_of s.slot y) where
  abbrev g : ℕ → ℕ
  g = slot_of s.slot

  abbrev a : ℕ
  a = slot_of s.slot x

  abbrev b : ℕ
  b = slot_of s.slot y

  abbrev K : View
  K = slot_view ρ φ s.unequal s.result s.ever

  laws : Laws n (view ρ φ w)
  laws = laws_pulled n g (view ρ φ w) K m.pulled

  slot-of : (r : ℕ) → r < n → called a b (slot_of s.slot r) ≡ slot_of (slot_renamed ρ a b s.slot) r
  slot-of r rb = sym (renamed_at ρ a b s.slot r (up ρ φ n s w m r rb))

  abbrev next : List ℕ
  next = set s.regs a (bit_or (get_or s.regs a 0) (get_or s.regs b 0))

  ab : a < ρ
  ab = low ρ φ n s w m x xb

  bb : b < ρ
  bb = low ρ φ n s w m y yb

  -- what the registers of a slot are called
  at_slot : (r t : ℕ) → r < n → (called a b (slot_of s.slot r) ≡ t) ↔ (slot_of (slot_renamed ρ a b s.slot) r ≡ t)
  at_slot r t rb = ((λ h. sym (slot-of r rb) ∙ h), (λ h. slot-of r rb ∙ h))

  members : (t r : ℕ) → t < ρ → T (has (get_or (set next b 0) t 0) r) ↔ ((r < n) × (slot_of (slot_renamed ρ a b s.slot) r ≡ t))
  members t r tb = ⊎_elim
      (λ e. subst (λ z. T (has (get_or (set next b 0) z 0) r) ↔ ((r < n) × (slot_of (slot_renamed ρ a b s.slot) r ≡ z))) (sym e) (
        (λ k. absurd (none_in r (subst (λ z. T (has z r)) (get_or-set_same next b 0 0 (simp length-set (subst (λ z. b < z) (sym m.laid.regs_long) bb))) k))),
        (λ (rb, h). absurd (not_b r rb ((at_slot r b rb).1 h))),
      ))
      (λ e. Iff.trans (same_iff (ap (λ z. has z r) (get_or-set_other next b t 0 0 e))) (⊎_elim
      (λ i. subst (λ z. T (has (get_or next z 0) r) ↔ ((r < n) × (slot_of (slot_renamed ρ a b s.slot) r ≡ z))) (sym i)
      (Iff.trans (same_iff (ap (λ z. has z r)
      (get_or-set_same s.regs a (bit_or (get_or s.regs a 0) (get_or s.regs b 0)) 0 (subst (λ z. a < z) (sym m.laid.regs_long) ab))))
      (Iff.trans (or_is (get_or s.regs a 0) (get_or s.regs b 0) r) (
        (λ k. ⊎_elim
            (λ j. let (rb, h) = (m.grouped.members a r ab).0 j in (rb, (at_slot r a rb).0 (called_other a b (g r) (λ o. d (sym h ∙ o)) ∙ h)))
            (λ j. let (rb, h) = (m.grouped.members b r bb).0 j in (rb, (at_slot r a rb).0 (called_same a b (g r) h))) k),
        (λ (rb, h). ⊎_elim (λ j. inr ((m.grouped.members b r bb).1 (rb, j)))
            (λ j. inl ((m.grouped.members a r ab).1 (rb, sym (called_other a b (g r) j) ∙ (at_slot r a rb).1 h))) (eq_or (g r) b)),
      ))))
      (λ i. Iff.trans (same_iff (ap (λ z. has z r) (get_or-set_other s.regs a t (bit_or (get_or s.regs a 0) (get_or s.regs b 0)) 0 i)))
      (Iff.trans (m.grouped.members t r tb) (
        (λ (rb, h). (rb, (at_slot r t rb).0 (called_other a b (g r) (λ o. e (sym h ∙ o)) ∙ h))),
        (λ (rb, h). (
          rb,
          ⊎_elim (λ j. absurd (i (sym (sym (called_same a b (g r) j) ∙ (at_slot r t rb).1 h))))
              (λ j. sym (called_other a b (g r) j) ∙ (at_slot r t rb).1 h) (eq_or (g r) b),
        )),
      )))
      (eq_or t a)))
      (eq_or t b)
    where
      not_b : (r : ℕ) → r < n → called a b (slot_of s.slot r) ≡ b → ⊥
      not_b r rb h = ⊎_elim (λ j. d (sym (called_same a b (g r) j) ∙ h)) (λ j. j (sym (called_other a b (g r) j) ∙ h)) (eq_or (g r) b)

  grouped : Grouped ρ n (slot_renamed ρ a b s.slot) (set next b 0)
  grouped = record {
    members = members;
    bytes = bytes_set ρ next b 0 (none_small ρ)
        (bytes_set ρ s.regs a (bit_or (get_or s.regs a 0) (get_or s.regs b 0))
        (or_small ρ (get_or s.regs a 0) (get_or s.regs b 0) (m.grouped.bytes a) (m.grouped.bytes b)) m.grouped.bytes);
  }

  abbrev K' : View
  K' = slot_view ρ φ (masks_renamed ρ a b s.unequal) (results_renamed ρ a b s.result) (masks_renamed ρ a b s.ever)

  tables : Called ρ a b K K'
  tables = called_tables ρ φ s.unequal s.result s.ever m.laid.tables.unequal_long m.laid.tables.result_long
      m.laid.tables.ever_long a b ab bb d

  abbrev w' : Window
  w' = windows.merged_of ρ φ w x y

  kept_mark : w'.mark ≡ w.mark
  unfolding windows.merged_of
  kept_mark = refl

  counts : (windows.merged_of ρ φ w x y).classes ≡ counted_classes ρ (windows.merged_of ρ φ w x y).class
  counts =
      let mg = merged ρ φ w m.shaped n laws m.inside x y xb yb in
      counted_merges ρ φ w m.shaped n (partition_of ρ φ n w laws m.inside) m.counted x y xb yb (λ t. d ((m.pulled.same x y xb yb).0 t))
      (partition_of ρ φ n w' (laws_merged n (view ρ φ w) x y laws xb yb (view ρ φ w') mg)
      (inside_merged ρ φ w m.shaped n laws m.inside x y xb yb)) mg.same

  kept_infeasible : w'.infeasible ≡ w.infeasible
  unfolding windows.merged_of
  kept_infeasible = refl

  pub merged_mirrors : Mirrors ρ φ n (merged_slots ρ φ s (slot_of s.slot x) (slot_of s.slot y)) (windows.merged_of ρ φ w x y)
  unfolding merged_slots
  merged_mirrors = record {
    shaped = shaped_merged ρ φ w x y (up ρ φ n s w m x xb) m.shaped;
    inside = inside_merged ρ φ w m.shaped n laws m.inside x y xb yb;
    laid = lay;
    grouped = grouped;
    clean = clean_merged ρ n g g' (view ρ φ w) (view ρ φ w') K K' m.pulled m.clean (low ρ φ n s w m) low' x y xb yb slot-of tables;
    pulled = pulled_merged ρ n g g' (view ρ φ w) (view ρ φ w') K K' m.pulled m.clean (low ρ φ n s w m) low' x y xb yb slot-of tables
        (merged ρ φ w m.shaped n laws m.inside x y xb yb);
    marked = λ r rb. Iff.trans (same_iff (ap (λ l. get_or l r false) kept_mark)) (m.marked r rb);
    infeasible = kept_infeasible ∙ m.infeasible;
    counted = counts;
  }
    where
      g' : ℕ → ℕ
      g' = slot_of (slot_renamed ρ a b s.slot)

      lay : LaidIn ρ φ (merged_slots ρ φ s (slot_of s.slot x) (slot_of s.slot y))
      lay = laid_merged ρ φ s a b ab m.laid

      low' : (r : ℕ) → r < n → slot_of (slot_renamed ρ a b s.slot) r < ρ
      low' r rb = lay.low.below r (up ρ φ n s w m r rb)
