-- Slots after a letter have arrays of the same lengths, and each register still has a slot.
use mathlib.Core.Path.{◌≡◌, ◌∙◌, subst, sym}
use mathlib.Core.Logic.{⊎_elim}
use mathlib.Core.Bool.{Bool, cond, ◌||◌}
use mathlib.Core.List.{List}
use Prim.Native.Nat.{ℕ, zero, suc, ◌+◌, ◌*◌, ◌^◌, ◌<◌}
use native.Mathlib.Omega.{arith}
use lib.Dec.{eqb, ltb}
use lib.Bits.{bit_or}
use lib.ListN.{length, get_or, set, length-set, length-replicate}
use lib.Seq.{get_or-set_same, get_or-set_other}
use borrow.Author.Tests.{ltb-true}
use Rattle.base.proofs.Theory.Choice.{by_test}
use Rattle.base.specs.LeastAndSize.{least_in}
use Rattle.letters.specs.declared.Letter.{Letter}
use Rattle.letters.specs.declared.Letter.TheVariants.{Copy, Apply, Equal, Unequal}
use Rattle.window.specs.Places.{place}
use Rattle.window.proofs.Theory.Table.{table_at, table_length}
use Rattle.window.proofs.Theory.Bits.{eq_or}
use Rattle.window.specs.Bits.{minus}
use Rattle.window.specs.Lines.{columns, rows, cleared}
use Rattle.window.proofs.Theory.Lines.{cleared_length}
use Rattle.window.specs.Through.{bits_moved, masks_through, results_through}
use Rattle.window.proofs.Theory.Through.{moved_length, masks_length, results_length}
use Rattle.window.specs.Adding.{masks_forgotten}
use Rattle.window.specs.Marks.{lost_of}
use Rattle.window.specs.Performing.{arguments_of, WithinLayout}
use Rattle.slots.specs.Slots.{Slots, slot_of, Low, SlotTableLengths, Laid}
use Rattle.slots.specs.Performing.{regs_moved, free_from, apart_slots, clash_slots, placed, register_in, find_slots, doubled_of, marks_in, slot_renamed}
use Rattle.slots.specs.Performing.{results_dropped, masks_renamed, results_renamed, result_recorded, ever_recorded}
use Rattle.slots.specs.Performing.{dropped_slots, left_slots, copied_slots, recorded_slots, renewed_slots}
use Rattle.slots.specs.Performing.{freshened_slots, new_slots, apply_slots, merged_slots}
use Rattle.slots.specs.Performing.{closed_slots, settled_slots, equal_slots, unequal_slots, perform_slots}

-- ---- lengths

pub moved_regs_length : (regs : List ℕ) (x s t : ℕ) → length (regs_moved regs x s t) ≡ length regs
unfolding regs_moved
moved_regs_length regs x s t = simp length-set

pub apart_length : (l : List ℕ) (a b : ℕ) → length (apart_slots l a b) ≡ length l
unfolding apart_slots
apart_length l a b = simp length-set

module _ (ρ : ℕ) where
  pub forgotten_length : (x : ℕ) (l : List ℕ) → length (masks_forgotten ρ x l) ≡ length l
  unfolding masks_forgotten
  forgotten_length x l = cleared_length (columns ρ) x (bits_moved 0 (2 ^ x) l) ∙ moved_length 0 (2 ^ x) l

  pub dropped_length : (x : ℕ) (l : List ℕ) → length (results_dropped ρ x l) ≡ length l
  unfolding results_dropped
  dropped_length x l = cleared_length (rows ρ) x (cleared (columns ρ) x (bits_moved 0 (2 ^ x) l)) ∙ cleared_length (columns ρ) x (bits_moved 0 (2 ^ x) l)
      ∙ moved_length 0 (2 ^ x) l

  pub renamed_length : (a b : ℕ) (l : List ℕ) → length (masks_renamed ρ a b l) ≡ length l
  unfolding masks_renamed
  renamed_length a b l = forgotten_length b (masks_through ρ a b (2 ^ a) l) ∙ masks_length ρ a b (2 ^ a) l

  pub results_renamed_length : (a b : ℕ) (l : List ℕ) → length (results_renamed ρ a b l) ≡ length l
  unfolding results_renamed
  results_renamed_length a b l = dropped_length b (results_through ρ a b (2 ^ a) l) ∙ results_length ρ a b (2 ^ a) l

  pub result_recorded_length : (f a b n : ℕ) (l : List ℕ) → length (result_recorded ρ f a b n l) ≡ length l
  unfolding result_recorded
  result_recorded_length f a b n l =
      by_test (eqb a n || eqb b n) (λ t. rw t) (λ t. rw t (length-set l (place ρ f a b) (bit_or (get_or l (place ρ f a b) 0) (2 ^ n))))

  pub ever_recorded_length : (f a b n : ℕ) (l : List ℕ) → length (ever_recorded ρ f a b n l) ≡ length l
  unfolding ever_recorded
  ever_recorded_length f a b n l = by_test (eqb a n || eqb b n) (λ t. rw t) (λ t. rw t (length-set l (ρ * f + a) (bit_or (get_or l (ρ * f + a) 0) (2 ^ b))))

  pub marks_length : (slot : List ℕ) (mark : List Bool) (lost : ℕ) → length (marks_in ρ slot mark lost) ≡ ρ
  unfolding marks_in
  marks_length slot mark lost = table_length _ ρ

  -- ---- each register has a slot

  pub low_set : (slot : List ℕ) (x t : ℕ) → x < ρ → t < ρ → Low ρ slot → Low ρ (set slot x t)
  low_set slot x t xb tb w = record {
    long = simp length-set w.long;
    below = λ r rb. ⊎_elim
        (λ e. subst (λ k. slot_of (set slot x t) k < ρ) (sym e) (subst (λ k. k < ρ) (sym (get_or-set_same slot x t 0 (omega (arith, w.long)))) tb))
        (λ d. subst (λ k. k < ρ) (sym (get_or-set_other slot x r t 0 d)) (w.below r rb))
        (eq_or r x);
  }

  pub renamed_at : (a b : ℕ) (slot : List ℕ) (r : ℕ) → r < ρ → slot_of (slot_renamed ρ a b slot) r ≡ cond (eqb (slot_of slot r) b) a (slot_of slot r)
  unfolding slot_renamed
  renamed_at a b slot r rb = table_at (λ r. cond (eqb (slot_of slot r) b) a (slot_of slot r)) ρ r 0 rb

  pub low_renamed : (a b : ℕ) (slot : List ℕ) → a < ρ → Low ρ slot → Low ρ (slot_renamed ρ a b slot)
  unfolding slot_renamed
  low_renamed a b slot ab w = record {
    long = table_length _ ρ;
    below = λ r rb. subst (λ k. k < ρ) (sym (table_at (λ r. cond (eqb (slot_of slot r) b) a (slot_of slot r)) ρ r 0 rb))
        (by_test (eqb (slot_of slot r) b) (λ t. rw t ab) (λ t. rw t (w.below r rb)));
  }

module _ (ρ φ : ℕ) where
  pub tabled_dropped : (x : ℕ) (u r e : List ℕ) → SlotTableLengths ρ φ u r e
      → SlotTableLengths ρ φ (masks_forgotten ρ x u) (results_dropped ρ x r) (masks_forgotten ρ x e)
  tabled_dropped x u r e t = record {
    unequal_long = forgotten_length ρ x u ∙ t.unequal_long;
    result_long = dropped_length ρ x r ∙ t.result_long;
    ever_long =
        forgotten_length ρ x e ∙ t.ever_long;
  }

  pub tabled_renamed : (a b : ℕ) (u r e : List ℕ) → SlotTableLengths ρ φ u r e
      → SlotTableLengths ρ φ (masks_renamed ρ a b u) (results_renamed ρ a b r) (masks_renamed ρ a b e)
  tabled_renamed a b u r e t = record {
    unequal_long = renamed_length ρ a b u ∙ t.unequal_long;
    result_long =
        results_renamed_length ρ a b r ∙ t.result_long;
    ever_long = renamed_length ρ a b e ∙ t.ever_long;
  }

  pub tabled_recorded : (f a b n : ℕ) (u r e : List ℕ) → SlotTableLengths ρ φ u r e
      → SlotTableLengths ρ φ u (result_recorded ρ f a b n r) (ever_recorded ρ f a b n e)
  tabled_recorded f a b n u r e t =
      record {
        unequal_long = t.unequal_long;
        result_long = result_recorded_length ρ f a b n r ∙ t.result_long;
        ever_long =
            ever_recorded_length ρ f a b n e ∙ t.ever_long;
      }

  abbrev pub LaidIn : Slots → Type 0
  LaidIn w = Laid ρ φ w.slot w.regs w.unequal w.result w.ever w.mark

  pub laid_placed : (w : Slots) (x t : ℕ) → x < ρ → t < ρ → LaidIn w → LaidIn (placed w x t)
  laid_placed w x t xb tb l = record {
    low = low_set ρ w.slot x t xb tb l.low;
    regs_long =
        moved_regs_length w.regs x (slot_of w.slot x) t ∙ l.regs_long;
    tables = l.tables;
    mark_long = l.mark_long;
  }

  pub laid_dropped : (w : Slots) (s more : ℕ) → LaidIn w → LaidIn (dropped_slots ρ φ w s more)
  unfolding dropped_slots
  laid_dropped w s more l = record {
    low = l.low;
    regs_long = l.regs_long;
    tables =
        tabled_dropped s w.unequal w.result w.ever l.tables;
    mark_long =
        marks_length ρ w.slot w.mark (bit_or (lost_of ρ φ w.result s more) (2 ^ s));
  }

  pub laid_left : (w : Slots) (s : ℕ) (empty : Bool) → LaidIn w → LaidIn (left_slots ρ φ w s empty)
  unfolding left_slots
  laid_left w s empty l = by_test empty (λ t. rw t (laid_dropped w s 0 l)) (λ t. rw t l)

  pub laid_copied : (w : Slots) (x y : ℕ) → x < ρ → y < ρ → LaidIn w → LaidIn (copied_slots ρ φ w x y)
  unfolding copied_slots
  laid_copied w x y xb yb l = by_test (eqb (slot_of w.slot x) (slot_of w.slot y)) (λ t. rw t l) (λ t. rw t (
      let k = laid_left (placed w x (slot_of w.slot y)) (slot_of w.slot x) (eqb (get_or w.regs (slot_of w.slot x) 0) (2 ^ x))
      (laid_placed w x (slot_of w.slot y) xb (l.low.below y yb) l) in
      record { low = k.low; regs_long = k.regs_long; tables = k.tables; mark_long = simp length-set k.mark_long }))

  pub laid_recorded : (w : Slots) (x f a b n : ℕ) → LaidIn w → LaidIn (recorded_slots ρ φ w x f a b n)
  unfolding recorded_slots
  laid_recorded w x f a b n l = record {
    low = l.low;
    regs_long = l.regs_long;
    tables =
        tabled_recorded f a b n w.unequal w.result w.ever l.tables;
    mark_long = simp length-set l.mark_long;
  }

  pub laid_renewed : (w : Slots) (x f a b : ℕ) → LaidIn w → LaidIn (renewed_slots ρ φ w x f a b)
  unfolding renewed_slots
  laid_renewed w x f a b l = let s = slot_of w.slot x in let more = arguments_of s a b (2 ^ a) (2 ^ b) in
      laid_recorded (dropped_slots ρ φ w s more) x f a b s (laid_dropped w s more l)

  pub laid_freshened : (w : Slots) (x f a b : ℕ) → x < ρ → LaidIn w → LaidIn (freshened_slots ρ φ w x f a b)
  unfolding freshened_slots
  laid_freshened w x f a b xb l = let n = free_from w.regs 0 ρ in
      by_test (ltb n ρ) (λ t. rw t (laid_recorded (placed w x n) x f a b n (laid_placed w x n xb (ltb-true n ρ t) l))) (λ t. rw t l)

  pub laid_new : (w : Slots) (x f a b : ℕ) → x < ρ → LaidIn w → LaidIn (new_slots ρ φ w x f a b)
  unfolding new_slots
  laid_new w x f a b xb l = by_test (eqb (get_or w.regs (slot_of w.slot x) 0) (2 ^ x)) (λ t. rw t (laid_renewed w x f a b l))
      (λ t. rw t (laid_freshened w x f a b xb l))

  pub laid_apply : (w : Slots) (x f y z : ℕ) → x < ρ → LaidIn w → LaidIn (apply_slots ρ φ w x f y z)
  unfolding apply_slots
  laid_apply w x f y z xb l = let r = register_in ρ w.regs (get_or w.result (place ρ f (slot_of w.slot y) (slot_of w.slot z)) 0) in
      by_test (ltb r ρ) (λ t. rw t (laid_copied w x r xb (ltb-true r ρ t) l)) (λ t. rw t (laid_new w x f (slot_of w.slot y) (slot_of w.slot z) xb l))

  pub laid_merged : (w : Slots) (a b : ℕ) → a < ρ → LaidIn w → LaidIn (merged_slots ρ φ w a b)
  unfolding merged_slots
  laid_merged w a b ab l = record {
    low = low_renamed ρ a b w.slot ab l.low;
    regs_long = simp length-set l.regs_long;
    tables =
        tabled_renamed a b w.unequal w.result w.ever l.tables;
    mark_long = l.mark_long;
  }

  pub laid_closed : (n : ℕ) (w : Slots) → LaidIn w → LaidIn (closed_slots ρ φ n w)
  unfolding closed_slots
  laid_closed zero w l = l
  laid_closed (suc n) w l =
      let entry = find_slots ρ w.slot w.regs w.result 0 (φ * ρ * ρ) in
      let one = least_in ρ entry in
      let two = least_in ρ (minus entry (get_or w.regs (slot_of w.slot one) 0)) in
      by_test (doubled_of ρ w.result (φ * ρ * ρ))
      (λ d. rw d (by_test (ltb one ρ)
      (λ t. rw t (by_test (ltb two ρ) (λ u. rw u
      (laid_closed n (merged_slots ρ φ w (slot_of w.slot one) (slot_of w.slot two))
      (laid_merged w (slot_of w.slot one) (slot_of w.slot two) (l.low.below one (ltb-true one ρ t)) l))) (λ u. rw u l)))
      (λ t. rw t l)))
      (λ d. rw d l)

  pub laid_settled : (w : Slots) (bad : Bool) → LaidIn w → LaidIn (settled_slots ρ φ w bad)
  unfolding settled_slots
  laid_settled w bad l = by_test (w.infeasible || bad)
      (λ t. rw t (record {
        low = l.low;
        regs_long = l.regs_long;
        tables =
            record { unequal_long = length-replicate ρ 0; result_long = l.tables.result_long; ever_long = l.tables.ever_long };
        mark_long = l.mark_long;
      }))
      (λ t. rw t l)

  pub laid_equal : (w : Slots) (x y : ℕ) → x < ρ → LaidIn w → LaidIn (equal_slots ρ φ w x y)
  unfolding equal_slots
  laid_equal w x y xb l = by_test (eqb (slot_of w.slot x) (slot_of w.slot y)) (λ t. rw t l) (λ t. rw t (
      let next = closed_slots ρ φ (ρ * ρ + 1) (merged_slots ρ φ w (slot_of w.slot x) (slot_of w.slot y)) in
      laid_settled next (clash_slots next.unequal ρ)
      (laid_closed (ρ * ρ + 1) (merged_slots ρ φ w (slot_of w.slot x) (slot_of w.slot y))
      (laid_merged w (slot_of w.slot x) (slot_of w.slot y) (l.low.below x xb) l))))

  pub laid_unequal : (w : Slots) (x y : ℕ) → LaidIn w → LaidIn (unequal_slots ρ φ w x y)
  unfolding unequal_slots
  laid_unequal w x y l = laid_settled _ (eqb (slot_of w.slot x) (slot_of w.slot y)) (record {
    low = l.low;
    regs_long = l.regs_long;
    tables = record {
      unequal_long = apart_length w.unequal (slot_of w.slot x) (slot_of w.slot y) ∙ l.tables.unequal_long;
      result_long =
          l.tables.result_long;
      ever_long = l.tables.ever_long;
    };
    mark_long = l.mark_long;
  })

  pub laid_performed : (w : Slots) (l : Letter) → WithinLayout ρ φ l → LaidIn w → LaidIn (perform_slots ρ φ w l)
  laid_performed w (Copy x y) (xb, yb) l = laid_copied w x y xb yb l
  laid_performed w (Apply x f y z) (xb, _, _, _) l = laid_apply w x f y z xb l
  laid_performed w (Equal x y) (xb, _) l = laid_equal w x y xb l
  laid_performed w (Unequal x y) _ l = laid_unequal w x y l
