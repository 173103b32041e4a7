-- Slots after a letter, whether the letter is coherent, and the window of slots, for every layout of ρ registers and φ functions and all slots:
-- what the code computes (SPEC 5.6).
use Rattle.std.specs.Prelude.{Bool, true, false, not, cond, ◌&&◌, ◌||◌, List, ℕ, zero, suc, ◌+◌, ◌*◌, ◌/◌, ◌%◌, ◌^◌, eqb, ltb, get_or, set, replicate}
use Rattle.std.specs.Int.Bits.{bit_and, bit_or}
use Rattle.base.specs.Choice.{pick}
use Rattle.base.specs.Masks.{has}
use Rattle.base.specs.LeastAndSize.{least_in, size_of}
use Rattle.letters.specs.declared.Letter.{Letter}
use Rattle.letters.specs.declared.Letter.TheVariants.{Copy, Apply, Equal, Unequal}
use Rattle.window.specs.Places.{place, place_function, place_first, place_second}
use Rattle.window.specs.Table.{table}
use Rattle.window.specs.Bits.{nonempty, minus}
use Rattle.window.specs.Lines.{columns, rows, cleared}
use Rattle.window.specs.Through.{bits_moved, masks_through, results_through}
use Rattle.window.specs.Adding.{part_of, masks_forgotten}
use Rattle.window.specs.Marks.{union_of, flag_of, raised_of, lost_of}
use Rattle.window.specs.Performing.{arguments_of}
use Rattle.window.specs.Counting.{counted_classes}
use Rattle.window.specs.declared.Window.{Window}
use Rattle.slots.specs.Slots.{Slots, slot_of}

-- ---- registers and slots

-- the register has a slot
unfoldable pub has_slot : List ℕ → List ℕ → ℕ → Bool
has_slot slot regs r = has (get_or regs (slot_of slot r) 0) r

-- register x goes from slot s to slot t
unfoldable pub regs_moved : List ℕ → ℕ → ℕ → ℕ → List ℕ
regs_moved regs x s t = let next = set regs s (minus (get_or regs s 0) (2 ^ x)) in set next t (bit_or (get_or next t 0) (2 ^ x))

-- of k slots from i on, the first free one; i + k if none is
unfoldable pub free_from : List ℕ → ℕ → ℕ → ℕ
free_from regs i zero = i
free_from regs i (suc k) = pick (eqb (get_or regs i 0) 0) (λ _. i) λ _. free_from regs (suc i) k

-- the registers of the slots of the mask below k
unfoldable pub pulled_of : List ℕ → ℕ → ℕ → ℕ
pulled_of regs m zero = 0
pulled_of regs m (suc k) = bit_or (pulled_of regs m k) (part_of m (get_or regs k 0) k)

-- one of the slots below k is unequal to itself
unfoldable pub clash_slots : List ℕ → ℕ → Bool
clash_slots unequal zero = false
clash_slots unequal (suc k) = clash_slots unequal k || has (get_or unequal k 0) k

-- the unequal pairs, with slots a and b put apart
unfoldable pub apart_slots : List ℕ → ℕ → ℕ → List ℕ
apart_slots l a b = let next = set l a (bit_or (get_or l a 0) (2 ^ b)) in set next b (bit_or (get_or next b 0) (2 ^ a))

-- an equal test is coherent: it is "early", neither side having a mark, or its sides are of one class, whatever their marks (SPEC 5.6)
unfoldable pub early_slots : List ℕ → List Bool → ℕ → ℕ → Bool
early_slots slot mark x y = pick (get_or mark x false || get_or mark y false) (λ _. eqb (slot_of slot x) (slot_of slot y)) λ _. true

abbrev pub with_mark : Slots → List Bool → Slots
with_mark w mark = record { slot = w.slot; regs = w.regs; unequal = w.unequal; result = w.result; ever = w.ever; mark = mark; infeasible = w.infeasible }

abbrev pub slots_with_unequal : Slots → List ℕ → Bool → Slots
slots_with_unequal w unequal infeasible =
    record { slot = w.slot; regs = w.regs; unequal = unequal; result = w.result; ever = w.ever; mark = w.mark; infeasible = infeasible }

-- the slots with register x in slot t
abbrev pub placed : Slots → ℕ → ℕ → Slots
placed w x t = record {
  slot = set w.slot x t;
  regs = regs_moved w.regs x (slot_of w.slot x) t;
  unequal = w.unequal;
  result = w.result;
  ever =
      w.ever;
  mark = w.mark;
  infeasible = w.infeasible;
}

-- ---- tables

module _ (ρ : ℕ) where
  -- the mask has two slots or more
  unfoldable pub many_of : ℕ → Bool
  many_of m = ltb 1 (size_of ρ m)

  -- one of the first k masks has two slots or more
  unfoldable pub doubled_of : List ℕ → ℕ → Bool
  doubled_of l zero = false
  doubled_of l (suc k) = doubled_of l k || many_of (get_or l k 0)

  -- slot x is no argument of a result and holds none
  unfoldable pub results_dropped : ℕ → List ℕ → List ℕ
  results_dropped x l = cleared (rows ρ) x (cleared (columns ρ) x (bits_moved 0 (2 ^ x) l))

  -- ---- in a table with an entry for each pair of slots: those that hold a result at the two, in either order

  -- for each slot, the slots that hold a result with it as an argument
  unfoldable pub above_slots : List ℕ → List ℕ
  above_slots t = table (λ h. union_of t h ρ ρ) ρ

  -- the slots below k with which x is an argument of a held result
  unfoldable pub beside_slots : List ℕ → ℕ → ℕ → ℕ
  beside_slots t x zero = 0
  beside_slots t x (suc k) = bit_or (beside_slots t x k) (flag_of ρ (get_or t (ρ * x + k) 0) k)

  -- x, the slots below a result that has x as an argument or that x holds, and `more` and those below it
  unfoldable pub lost_slots : List ℕ → ℕ → ℕ → ℕ
  lost_slots t x more = raised_of ρ (above_slots t) (bit_or (bit_or (2 ^ x) (beside_slots t x ρ)) more)

  -- slot n holds a result at slots a and b, unless it took the place of one of them
  unfoldable pub pair_recorded : ℕ → ℕ → ℕ → List ℕ → List ℕ
  pair_recorded a b n t = pick (eqb a n || eqb b n) (λ _. t) λ _.
      let next = set t (ρ * a + b) (bit_or (get_or t (ρ * a + b) 0) (2 ^ n)) in
      set next (ρ * b + a) (bit_or (get_or next (ρ * b + a) 0) (2 ^ n))

  -- slot b is called a: in a table of masks, in the table of results, and in the slots of the registers
  unfoldable pub masks_renamed : ℕ → ℕ → List ℕ → List ℕ
  masks_renamed a b l = masks_forgotten ρ b (masks_through ρ a b (2 ^ a) l)

  unfoldable pub results_renamed : ℕ → ℕ → List ℕ → List ℕ
  results_renamed a b l = results_dropped b (results_through ρ a b (2 ^ a) l)

  unfoldable pub slot_renamed : ℕ → ℕ → List ℕ → List ℕ
  slot_renamed a b slot = table (λ r. cond (eqb (slot_of slot r) b) a (slot_of slot r)) ρ

  -- the marks, and those of the registers whose slot is in the mask
  unfoldable pub marks_in : List ℕ → List Bool → ℕ → List Bool
  marks_in slot mark lost = table (λ r. get_or mark r false || has lost (slot_of slot r)) ρ

  -- the lowest register of the lowest slot of a mask; ρ if the mask is empty
  unfoldable pub register_in : List ℕ → ℕ → ℕ
  register_in regs m = pick (ltb (least_in ρ m) ρ) (λ _. least_in ρ (get_or regs (least_in ρ m) 0)) λ _. ρ

  -- slot n holds the result of f at slots a and b, unless it took the place of one of them
  unfoldable pub result_recorded : ℕ → ℕ → ℕ → ℕ → List ℕ → List ℕ
  result_recorded f a b n l = pick (eqb a n || eqb b n) (λ _. l) λ _. set l (place ρ f a b) (bit_or (get_or l (place ρ f a b) 0) (2 ^ n))

  unfoldable pub ever_recorded : ℕ → ℕ → ℕ → ℕ → List ℕ → List ℕ
  ever_recorded f a b n l = pick (eqb a n || eqb b n) (λ _. l) λ _. set l (ρ * f + a) (bit_or (get_or l (ρ * f + a) 0) (2 ^ b))

  -- the slots that hold the result at place k of a window
  unfoldable pub entry_of : List ℕ → List ℕ → List ℕ → ℕ → ℕ
  entry_of slot regs result k = pick (has_slot slot regs (place_first ρ k) && has_slot slot regs (place_second ρ k))
      (λ _. get_or result (place ρ (place_function ρ k) (slot_of slot (place_first ρ k)) (slot_of slot (place_second ρ k))) 0) λ _. 0

  -- of k results of a window from i on, the registers of the first that is in two slots, or the empty mask
  unfoldable pub find_slots : List ℕ → List ℕ → List ℕ → ℕ → ℕ → ℕ
  find_slots slot regs result i zero = 0
  find_slots slot regs result i (suc k) =
      pick (many_of (entry_of slot regs result i)) (λ _. pulled_of regs (entry_of slot regs result i) ρ) λ _. find_slots slot regs result (suc i) k

  -- "Memoizing": a slot holds the value, or it was never computed (SPEC 5.6)
  unfoldable pub memoizing_slots : List ℕ → List ℕ → List ℕ → ℕ → ℕ → ℕ → Bool
  memoizing_slots slot result ever f y z =
      pick (has (get_or ever (ρ * f + slot_of slot y) 0) (slot_of slot z))
      (λ _. nonempty ρ (get_or result (place ρ f (slot_of slot y) (slot_of slot z)) 0)) λ _. true

-- ---- a letter

module _ (ρ φ : ℕ) where
  -- slot s has no register any more, or one that gets a new value: it and what is below it, and `more` and what is below that, get a mark, and the tables
  -- forget it
  unfoldable pub dropped_slots : Slots → ℕ → ℕ → Slots
  dropped_slots w s more = record {
    slot = w.slot;
    regs = w.regs;
    unequal = masks_forgotten ρ s w.unequal;
    result = results_dropped ρ s w.result;
    ever = masks_forgotten ρ s w.ever;
    mark = marks_in ρ w.slot w.mark (bit_or (lost_of ρ φ w.result s more) (2 ^ s));
    infeasible = w.infeasible;
  }

  -- the same, if the slot is empty
  unfoldable pub left_slots : Slots → ℕ → Bool → Slots
  left_slots w s empty = pick empty (λ _. dropped_slots w s 0) λ _. w

  -- x has come to hold what y holds; nothing moves within a slot
  unfoldable pub copied_slots : Slots → ℕ → ℕ → Slots
  copied_slots w x y = pick (eqb (slot_of w.slot x) (slot_of w.slot y)) (λ _. w) λ _.
      let s = slot_of w.slot x in
      let next = left_slots (placed w x (slot_of w.slot y)) s (eqb (get_or w.regs s 0) (2 ^ x)) in
      with_mark next (set next.mark x (get_or next.mark y false))

  -- slot n holds the result of f at slots a and b, and register x has no mark
  unfoldable pub recorded_slots : Slots → ℕ → ℕ → ℕ → ℕ → ℕ → Slots
  recorded_slots w x f a b n = record {
    slot = w.slot;
    regs = w.regs;
    unequal = w.unequal;
    result = result_recorded ρ f a b n w.result;
    ever = ever_recorded ρ f a b n w.ever;
    mark = set w.mark x false;
    infeasible = w.infeasible;
  }

  -- x, alone in its slot, gets the value of f at slots a and b
  unfoldable pub renewed_slots : Slots → ℕ → ℕ → ℕ → ℕ → Slots
  renewed_slots w x f a b = let s = slot_of w.slot x in recorded_slots (dropped_slots w s (arguments_of s a b (2 ^ a) (2 ^ b))) x f a b s

  -- x leaves its slot to others, and gets the value of f at slots a and b in a free one
  unfoldable pub freshened_slots : Slots → ℕ → ℕ → ℕ → ℕ → Slots
  freshened_slots w x f a b = let n = free_from w.regs 0 ρ in pick (ltb n ρ) (λ _. recorded_slots (placed w x n) x f a b n) λ _. w

  -- x := f of what is in slots a and b, a value that was never computed
  unfoldable pub new_slots : Slots → ℕ → ℕ → ℕ → ℕ → Slots
  new_slots w x f a b = pick (eqb (get_or w.regs (slot_of w.slot x) 0) (2 ^ x)) (λ _. renewed_slots w x f a b) λ _. freshened_slots w x f a b

  -- x := f(y, z): a value that is known is copied from a register that holds it
  unfoldable pub apply_slots : Slots → ℕ → ℕ → ℕ → ℕ → Slots
  apply_slots w x f y z =
      let r = register_in ρ w.regs (get_or w.result (place ρ f (slot_of w.slot y) (slot_of w.slot z)) 0) in
      pick (ltb r ρ) (λ _. copied_slots w x r) λ _. new_slots w x f (slot_of w.slot y) (slot_of w.slot z)

  -- the registers of slot b go to slot a
  unfoldable pub merged_slots : Slots → ℕ → ℕ → Slots
  merged_slots w a b = record {
    slot = slot_renamed ρ a b w.slot;
    regs = set (set w.regs a (bit_or (get_or w.regs a 0) (get_or w.regs b 0))) b 0;
    unequal = masks_renamed ρ a b w.unequal;
    result = results_renamed ρ a b w.result;
    ever = masks_renamed ρ a b w.ever;
    mark = w.mark;
    infeasible = w.infeasible;
  }

  -- slots are made one until no result is in two of them, with so many merges at most: in the order of a window's closing
  unfoldable pub closed_slots : ℕ → Slots → Slots
  closed_slots zero w = w
  closed_slots (suc n) w = pick (doubled_of ρ w.result (φ * ρ * ρ)) (λ _.
      let entry = find_slots ρ w.slot w.regs w.result 0 (φ * ρ * ρ) in
      let one = least_in ρ entry in
      let two = least_in ρ (minus entry (get_or w.regs (slot_of w.slot one) 0)) in
      pick (ltb one ρ) (λ _. pick (ltb two ρ) (λ _. closed_slots n (merged_slots w (slot_of w.slot one) (slot_of w.slot two))) λ _. w) λ _. w) λ _. w

  -- "Once infeasible, it has no unequal pairs." (SPEC 5.2, 5.6)
  unfoldable pub settled_slots : Slots → Bool → Slots
  settled_slots w bad = pick (w.infeasible || bad) (λ _. slots_with_unequal w (replicate ρ 0) true) λ _. w

  unfoldable pub equal_slots : Slots → ℕ → ℕ → Slots
  equal_slots w x y = pick (eqb (slot_of w.slot x) (slot_of w.slot y)) (λ _. w) λ _.
      let next = closed_slots (ρ * ρ + 1) (merged_slots w (slot_of w.slot x) (slot_of w.slot y)) in
      settled_slots next (clash_slots next.unequal ρ)

  unfoldable pub unequal_slots : Slots → ℕ → ℕ → Slots
  unequal_slots w x y = settled_slots (slots_with_unequal w (apart_slots w.unequal (slot_of w.slot x) (slot_of w.slot y)) w.infeasible)
      (eqb (slot_of w.slot x) (slot_of w.slot y))

  -- the letter is coherent
  abbrev pub judge_slots : Slots → Letter → Bool
  judge_slots w (Copy x y) = true
  judge_slots w (Apply x f y z) = memoizing_slots ρ w.slot w.result w.ever f y z
  judge_slots w (Equal x y) = early_slots w.slot w.mark x y
  judge_slots w (Unequal x y) = true

  -- the slots after it
  abbrev pub perform_slots : Slots → Letter → Slots
  perform_slots w (Copy x y) = copied_slots w x y
  perform_slots w (Apply x f y z) = apply_slots w x f y z
  perform_slots w (Equal x y) = equal_slots w x y
  perform_slots w (Unequal x y) = unequal_slots w x y

-- ---- slots and windows

module _ (ρ : ℕ) where
  -- the table of a window that a table of slots stands for: a register that has no slot has the empty mask
  unfoldable pub pulled_at : List ℕ → List ℕ → List ℕ → ℕ → ℕ
  pulled_at slot regs l k = pick (has_slot slot regs (k % ρ)) (λ _. pulled_of regs (get_or l (ρ * (k / ρ) + slot_of slot (k % ρ)) 0) ρ) λ _. 0

  unfoldable pub pulled_masks : List ℕ → List ℕ → List ℕ → ℕ → List ℕ
  pulled_masks slot regs l n = table (pulled_at slot regs l) n

  unfoldable pub pulled_results : List ℕ → List ℕ → List ℕ → ℕ → List ℕ
  pulled_results slot regs l n = table (λ k. pulled_of regs (entry_of ρ slot regs l k) ρ) n

  unfoldable pub pulled_classes : List ℕ → List ℕ → List ℕ
  pulled_classes slot regs = table (λ r. pick (has_slot slot regs r) (λ _. get_or regs (slot_of slot r) 0) λ _. 0) ρ

  unfoldable pub pulled_marks : List ℕ → List ℕ → List Bool → List Bool
  pulled_marks slot regs mark = table (λ r. has_slot slot regs r && get_or mark r false) ρ

  -- the registers below k and n whose slot is s
  unfoldable pub members_of : List ℕ → ℕ → ℕ → ℕ → ℕ
  members_of slot n s zero = 0
  members_of slot n s (suc k) = bit_or (members_of slot n s k) (cond (ltb k n && eqb (slot_of slot k) s) (2 ^ k) 0)

  -- of the slots below k, each has the registers that name it, and each register has one of ρ
  unfoldable pub grouped_of : List ℕ → List ℕ → ℕ → ℕ → Bool
  grouped_of slot regs n zero = true
  grouped_of slot regs n (suc k) = grouped_of slot regs n k && (ltb (slot_of slot k) ρ && eqb (get_or regs k 0) (members_of slot n k ρ))

  -- the slots below k that have a register
  unfoldable pub used_of : List ℕ → ℕ → ℕ
  used_of regs zero = 0
  used_of regs (suc k) = bit_or (used_of regs k) (cond (eqb (get_or regs k 0) 0) 0 (2 ^ k))

  -- what is left of the mask at entry k, if only the slots of `used` are kept: there, and as what the entry stands at
  unfoldable pub kept_at : ℕ → ℕ → ℕ → ℕ → ℕ
  kept_at used step m k = part_of used (bit_and m used) (k / step % ρ)

  -- of the first k masks nothing is lost so
  unfoldable pub clean_of : ℕ → ℕ → List ℕ → ℕ → Bool
  clean_of used step l zero = true
  clean_of used step l (suc k) = clean_of used step l k && eqb (get_or l k 0) (kept_at used step (get_or l k 0) k)

  -- the first k entries are the same
  unfoldable pub same_masks : List ℕ → List ℕ → ℕ → Bool
  same_masks l m zero = true
  same_masks l m (suc k) = same_masks l m k && eqb (get_or l k 0) (get_or m k 0)

  -- two tests have the same answer
  unfoldable pub alike_of : Bool → Bool → Bool
  alike_of a b = pick a (λ _. b) λ _. not b

  unfoldable pub same_marks : List Bool → List Bool → ℕ → Bool
  same_marks l m zero = true
  same_marks l m (suc k) = same_marks l m k && alike_of (get_or l k false) (get_or m k false)

module _ (ρ φ : ℕ) where
  -- the window of slots
  abbrev pub window_of : Slots → Window
  window_of w = record {
    class = pulled_classes ρ w.slot w.regs;
    unequal = pulled_masks ρ w.slot w.regs w.unequal ρ;
    result = pulled_results ρ w.slot w.regs w.result (φ * ρ * ρ);
    ever = pulled_masks ρ w.slot w.regs w.ever (φ * ρ);
    mark = pulled_marks ρ w.slot w.regs w.mark;
    infeasible = w.infeasible;
    classes = counted_classes ρ (pulled_classes ρ w.slot w.regs);
  }

  -- each register below n has its slot, a free slot is in no mask and has the empty one, and no result is in two slots
  unfoldable pub regular_of : Slots → ℕ → Bool
  regular_of w n =
      let used = used_of ρ w.regs ρ in
      ((((grouped_of ρ w.slot w.regs n ρ && clean_of ρ used 1 w.unequal ρ) && clean_of ρ used 1 w.ever (φ * ρ)) && clean_of ρ used 1 w.result
      (φ * ρ * ρ)) && clean_of ρ used ρ w.result (φ * ρ * ρ))
      && not (doubled_of ρ w.result (φ * ρ * ρ))

  -- two windows are equal as values, the number of classes included
  unfoldable pub same_window : Window → Window → Bool
  same_window v w =
      (((((same_masks ρ v.class w.class ρ && same_masks ρ v.unequal w.unequal ρ) && same_masks ρ v.result w.result (φ * ρ * ρ)) && same_masks ρ
      v.ever w.ever (φ * ρ)) && same_marks ρ v.mark w.mark ρ)
      && alike_of ρ v.infeasible w.infeasible) && eqb v.classes w.classes

  -- the slots are those of the window v, with n registers
  unfoldable pub represents_of : Window → Slots → ℕ → Bool
  represents_of v w n = pick (ltb ρ n) (λ _. false) λ _. pick (regular_of w n) (λ _. same_window v (window_of w)) λ _. false
