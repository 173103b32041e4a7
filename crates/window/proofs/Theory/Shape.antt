-- The window after a letter has arrays of the same lengths.
use mathlib.Core.Path.{◌≡◌, ◌∙◌}
use mathlib.Core.Bool.{Bool, true, false, cond, ◌&&◌, ◌||◌}
use mathlib.Core.List.{List}
use Prim.Native.Nat.{ℕ, zero, suc, ◌+◌, ◌*◌, ◌/◌, ◌%◌, ◌^◌, ◌<◌}
use mathlib.Core.Logic.{⊎_elim}
use lib.Dec.{eqb, ltb}
use lib.Bits.{bit_or}
use lib.Seq.{get_or-set_same, get_or-set_other, set_out}
use borrow.Author.Tests.{eqb-true, eqb-false, ltb-true}
use lib.ListN.{length, get_or, set, length-set, replicate, length-replicate}
use Rattle.base.proofs.Theory.Choice.{by_test}
use Rattle.base.specs.Masks.{has}
use Rattle.base.specs.LeastAndSize.{least_in}
use Rattle.letters.specs.declared.Letter.{Letter}
use Rattle.letters.specs.declared.Letter.TheVariants.{Copy, Apply, Equal, Unequal}
use Rattle.window.specs.Places.{place}
use Rattle.window.specs.Table.{table}
use Rattle.window.proofs.Theory.Table.{table_length, table_at, table_out}
use Rattle.window.specs.Bits.{mask_moved}
use Rattle.window.proofs.Theory.Bits.{moved_small, or_small, pow_small, none_small, less_or}
use Rattle.window.specs.Lines.{TableLines, columns, rows, entry_on_line, united_at, united, cleared_at, cleared}
use Rattle.window.proofs.Theory.Lines.{cleared_length}
use Rattle.window.specs.Through.{bits_moved, masks_through, results_through}
use Rattle.window.proofs.Theory.Through.{moved_length, masks_length, results_length}
use Rattle.window.specs.Adding.{part_of, masks_forgotten, results_forgotten, results_added, line_added}
use Rattle.window.proofs.Theory.Adding.{line-length, added_length}
use Rattle.window.proofs.Theory.Copying.{marked_length}
use Rattle.window.specs.Performing.{fallen_of, copied_tables, copied_of, both_classes, merged_of, find_of, rest_of, closed_of, clash_of, settled_of, equal_of}
use Rattle.window.specs.Performing.{parted_of, unequal_of, arguments_of, applied_of, apply_of, own_of, fresh_in_layout, perform_in_layout, with_unequal}
use Rattle.window.specs.Performing.{WithinLayout}
use Rattle.window.specs.Viewing.{Shaped, Masks}
use Rattle.window.specs.declared.Window.{Window}

module _ (ρ φ : ℕ) where
  pub forgotten_length : (x : ℕ) (l : List ℕ) → length (masks_forgotten ρ x l) ≡ length l
  unfolding masks_forgotten
  forgotten_length x l = cleared_length (columns ρ) x (bits_moved 0 (2 ^ x) l) ∙ moved_length 0 (2 ^ x) l

  pub renewed_length : (x f one two : ℕ) (l : List ℕ) → length (results_forgotten ρ x f one two l) ≡ length l
  unfolding results_forgotten
  renewed_length x f one two l =
      let B = bits_moved 0 (2 ^ x) l in
      let R = results_added ρ (has one) f two (2 ^ x) B in
      cleared_length (rows ρ) x (cleared (columns ρ) x R) ∙ cleared_length (columns ρ) x R ∙ added_length ρ (has one) f two (2 ^ x) B ∙ moved_length 0 (2 ^ x) l

  -- ---- bytes

  bytes_table : (F : ℕ → ℕ) (n : ℕ) → ((k : ℕ) → k < n → F k < 2 ^ ρ) → Masks ρ (table F n)
  bytes_table F n f k = ⊎_elim (λ l. rw (table_at F n k 0 l) (f k l)) (λ l. rw (table_out F n k 0 l) (none_small ρ)) (less_or k n)

  bytes_moved : (from to : ℕ) (l : List ℕ) → to < 2 ^ ρ → Masks ρ l → Masks ρ (bits_moved from to l)
  unfolding bits_moved
  bytes_moved from to l h f = bytes_table (λ i. mask_moved (get_or l i 0) from to) (length l) (λ k b. moved_small ρ (get_or l k 0) from to (f k) h)

  bytes_united : (L : TableLines ρ) (P : ℕ → Bool) (a b : ℕ) (l : List ℕ) → Masks ρ l → Masks ρ (united L P a b l)
  unfolding united united_at
  bytes_united L P a b l f = bytes_table (united_at L P a b l) (length l)
      (λ i h. by_test (P (L.along i))
      (λ t. rw t (or_small ρ (get_or l (entry_on_line L i a) 0) (get_or l (entry_on_line L i b) 0) (f (entry_on_line L i a)) (f (entry_on_line L i b))))
      (λ t. rw t (f i)))

  bytes_cleared : (L : TableLines ρ) (x : ℕ) (l : List ℕ) → Masks ρ l → Masks ρ (cleared L x l)
  unfolding cleared cleared_at
  bytes_cleared L x l f = bytes_table (cleared_at L x l) (length l) (λ i h. by_test (eqb (L.along i) x) (λ t. rw t (none_small ρ)) (λ t. rw t (f i)))

  bytes_masks : (a b to : ℕ) (l : List ℕ) → to < 2 ^ ρ → Masks ρ l → Masks ρ (masks_through ρ a b to l)
  unfolding masks_through
  bytes_masks a b to l h f = bytes_moved (bit_or (2 ^ a) (2 ^ b)) to (united (columns ρ) (has to) a b l) h (bytes_united (columns ρ) (has to) a b l f)

  bytes_results : (a b to : ℕ) (l : List ℕ) → to < 2 ^ ρ → Masks ρ l → Masks ρ (results_through ρ a b to l)
  unfolding results_through
  bytes_results a b to l h f = bytes_moved (bit_or (2 ^ a) (2 ^ b)) to (united (rows ρ) (has to) a b (united (columns ρ) (has to) a b l)) h
      (bytes_united (rows ρ) (has to) a b (united (columns ρ) (has to) a b l) (bytes_united (columns ρ) (has to) a b l f))

  bytes_line : (j mask what : ℕ) (l : List ℕ) → what < 2 ^ ρ → Masks ρ l → Masks ρ (line_added ρ j mask what l)
  unfolding line_added
  bytes_line j mask what l h f = bytes_table _ (length l)
      (λ i b. or_small ρ (get_or l i 0) (cond (eqb (i / ρ) j && has mask (i % ρ)) what 0) (f i) (small (eqb (i / ρ) j && has mask (i % ρ))))
    where
      small : (b : Bool) → cond b what 0 < 2 ^ ρ
      small true = h
      small false = none_small ρ

  bytes_added : (P : ℕ → Bool) (f second what : ℕ) (l : List ℕ) → what < 2 ^ ρ → Masks ρ l → Masks ρ (results_added ρ P f second what l)
  unfolding results_added
  bytes_added P f second what l h g =
      bytes_table _ (length l) (λ i b. or_small ρ (get_or l i 0) (cond ((eqb (i / (ρ * ρ)) f && P (i / ρ % ρ)) && has second (i % ρ)) what 0) (g i)
      (small ((eqb (i / (ρ * ρ)) f && P (i / ρ % ρ)) && has second (i % ρ))))
    where
      small : (b : Bool) → cond b what 0 < 2 ^ ρ
      small true = h
      small false = none_small ρ

  bytes_forgotten : (x : ℕ) (l : List ℕ) → x < ρ → Masks ρ l → Masks ρ (masks_forgotten ρ x l)
  unfolding masks_forgotten
  bytes_forgotten x l h f = bytes_cleared (columns ρ) x (bits_moved 0 (2 ^ x) l) (bytes_moved 0 (2 ^ x) l (pow_small ρ x h) f)

  bytes_renewed : (x f one two : ℕ) (l : List ℕ) → x < ρ → Masks ρ l → Masks ρ (results_forgotten ρ x f one two l)
  unfolding results_forgotten
  bytes_renewed x f one two l h g =
      let B = bits_moved 0 (2 ^ x) l in
      let R = results_added ρ (has one) f two (2 ^ x) B in
      bytes_cleared (rows ρ) x (cleared (columns ρ) x R)
      (bytes_cleared (columns ρ) x R (bytes_added (has one) f two (2 ^ x) B (pow_small ρ x h) (bytes_moved 0 (2 ^ x) l (pow_small ρ x h) g)))

  bytes_set : (l : List ℕ) (i v : ℕ) → v < 2 ^ ρ → Masks ρ l → Masks ρ (set l i v)
  bytes_set l i v h f k = by_test (eqb k i)
      (λ t. rw (eqb-true k i t) (⊎_elim (λ b. rw (get_or-set_same l i v 0 b) h) (λ b. rw (set_out l i v b) (f i)) (less_or i (length l))))
      (λ t. rw (get_or-set_other l i k v 0 (eqb-false k i t)) (f k))

  bytes_zero : (n : ℕ) → Masks ρ (replicate n 0)
  bytes_zero zero k = none_small ρ
  bytes_zero (suc n) zero = none_small ρ
  bytes_zero (suc n) (suc k) = bytes_zero n k

  bytes_both : (w : Window) (a b : ℕ) → a < ρ → Shaped ρ φ w → both_classes w a b < 2 ^ ρ
  bytes_both w a b h s = or_small ρ (bit_or (get_or w.class a 0) (get_or w.class b 0)) (2 ^ a)
      (or_small ρ (get_or w.class a 0) (get_or w.class b 0) (s.class_bytes a) (s.class_bytes b)) (pow_small ρ a h)

  -- ---- the window after a letter

  pub shaped_tables : (w : Window) (x y : ℕ) → x < ρ → Shaped ρ φ w → Shaped ρ φ (copied_tables ρ φ w x y)
  unfolding copied_tables
  shaped_tables w x y h s = record {
    class = masks_length ρ y y (2 ^ x) w.class ∙ s.class;
    unequal = masks_length ρ y y (2 ^ x) w.unequal ∙ s.unequal;
    result = results_length ρ y y (2 ^ x) w.result ∙ s.result;
    ever = masks_length ρ y y (2 ^ x) w.ever ∙ s.ever;
    mark = simp length-set (marked_length ρ φ w.mark (fallen_of ρ φ (get_or w.class x 0) w.result x 0));
    class_bytes = bytes_masks y y (2 ^ x) w.class (pow_small ρ x h) s.class_bytes;
    unequal_bytes = bytes_masks y y (2 ^ x) w.unequal (pow_small ρ x h) s.unequal_bytes;
    result_bytes = bytes_results y y (2 ^ x) w.result (pow_small ρ x h) s.result_bytes;
    ever_bytes = bytes_masks y y (2 ^ x) w.ever (pow_small ρ x h) s.ever_bytes;
  }

  pub shaped_copied : (w : Window) (x y : ℕ) → x < ρ → Shaped ρ φ w → Shaped ρ φ (copied_of ρ φ w x y)
  unfolding copied_of
  shaped_copied w x y h s = by_test (has (get_or w.class x 0) y) (λ t. rw t s) (λ t. rw t (shaped_tables w x y h s))

  pub shaped_merged : (w : Window) (a b : ℕ) → a < ρ → Shaped ρ φ w → Shaped ρ φ (merged_of ρ φ w a b)
  unfolding merged_of
  shaped_merged w a b h s = record {
    class = masks_length ρ a b (both_classes w a b) w.class ∙ s.class;
    unequal = masks_length ρ a b (both_classes w a b) w.unequal ∙ s.unequal;
    result = results_length ρ a b (both_classes w a b) w.result ∙ s.result;
    ever = masks_length ρ a b (both_classes w a b) w.ever ∙ s.ever;
    mark = s.mark;
    class_bytes = bytes_masks a b (both_classes w a b) w.class (bytes_both w a b h s) s.class_bytes;
    unequal_bytes = bytes_masks a b (both_classes w a b) w.unequal (bytes_both w a b h s) s.unequal_bytes;
    result_bytes = bytes_results a b (both_classes w a b) w.result (bytes_both w a b h s) s.result_bytes;
    ever_bytes = bytes_masks a b (both_classes w a b) w.ever (bytes_both w a b h s) s.ever_bytes;
  }

  pub shaped_closed : (n : ℕ) (w : Window) → Shaped ρ φ w → Shaped ρ φ (closed_of ρ φ n w)
  unfolding closed_of
  shaped_closed zero w s = s
  shaped_closed (suc n) w s =
      let entry = find_of ρ φ w.class w.result 0 (φ * ρ * ρ) in
      let one = least_in ρ entry in
      let two = least_in ρ (rest_of ρ φ w.class entry) in
      by_test (ltb one ρ) (λ t. rw t (by_test (ltb two ρ) (λ u. rw u (shaped_closed n (merged_of ρ φ w one two) (shaped_merged w one two (ltb-true one ρ t) s)))
      (λ u. rw u s))) (λ t. rw t s)

  pub shaped_settled : (w : Window) (b : Bool) → Shaped ρ φ w → Shaped ρ φ (settled_of ρ φ w b)
  unfolding settled_of
  shaped_settled w b s = by_test (w.infeasible || b)
      (λ t. rw t (record {
        class = s.class;
        unequal = length-replicate ρ 0;
        result = s.result;
        ever = s.ever;
        mark = s.mark;
        class_bytes =
            s.class_bytes;
        unequal_bytes = bytes_zero ρ;
        result_bytes = s.result_bytes;
        ever_bytes = s.ever_bytes;
      })) (λ t. rw t s)

  pub shaped_equal : (w : Window) (x y : ℕ) → x < ρ → Shaped ρ φ w → Shaped ρ φ (equal_of ρ φ w x y)
  unfolding equal_of
  shaped_equal w x y h s =
      let next = closed_of ρ φ (ρ * ρ + 1) (merged_of ρ φ w x y) in
      by_test (has (get_or w.class x 0) y) (λ t. rw t s)
      (λ t. rw t (shaped_settled next (clash_of ρ φ next.class next.unequal ρ)
      (shaped_closed (ρ * ρ + 1) (merged_of ρ φ w x y) (shaped_merged w x y h s))))

  pub shaped_parted : (w : Window) (one two : ℕ) → one < 2 ^ ρ → two < 2 ^ ρ → Shaped ρ φ w
      → Shaped ρ φ (with_unequal w (parted_of ρ φ w.unequal one two) w.infeasible)
  unfolding parted_of part_of
  shaped_parted w one two h₁ h₂ s = record {
    class = s.class;
    unequal = table_length _ ρ;
    result = s.result;
    ever = s.ever;
    mark = s.mark;
    class_bytes = s.class_bytes;
    unequal_bytes = bytes_table _ ρ
        (λ r b. or_small ρ (bit_or (get_or w.unequal r 0) (part_of one two r)) (part_of two one r)
        (or_small ρ (get_or w.unequal r 0) (part_of one two r) (s.unequal_bytes r) (small one two r h₂)) (small two one r h₁));
    result_bytes = s.result_bytes;
    ever_bytes = s.ever_bytes;
  }
    where
      small : (m v r : ℕ) → v < 2 ^ ρ → part_of m v r < 2 ^ ρ
      small m v r b = by_test (has m r) (λ t. rw t b) (λ t. rw t (none_small ρ))

  pub shaped_unequal : (w : Window) (x y : ℕ) → Shaped ρ φ w → Shaped ρ φ (unequal_of ρ φ w x y)
  unfolding unequal_of
  shaped_unequal w x y s = shaped_settled (with_unequal w (parted_of ρ φ w.unequal (get_or w.class x 0) (get_or w.class y 0)) w.infeasible)
      (has (get_or w.class x 0) y) (shaped_parted w (get_or w.class x 0) (get_or w.class y 0) (s.class_bytes x) (s.class_bytes y) s)

  pub shaped_applied : (w : Window) (x f y z : ℕ) → x < ρ → Shaped ρ φ w → Shaped ρ φ (applied_of ρ φ w x f y z)
  unfolding applied_of
  shaped_applied w x f y z h s =
      let one = get_or w.class y 0 in
      let two = get_or w.class z 0 in
      record {
        class = simp length-set (forgotten_length x w.class ∙ s.class);
        unequal = forgotten_length x w.unequal ∙ s.unequal;
        result = renewed_length x f one two w.result ∙ s.result;
        ever = forgotten_length x (line_added ρ f one two w.ever) ∙ line-length ρ f one two w.ever ∙ s.ever;
        mark = simp length-set (marked_length ρ φ w.mark (fallen_of ρ φ (get_or w.class x 0) w.result x (arguments_of x y z one two)));
        class_bytes = bytes_set (masks_forgotten ρ x w.class) x (2 ^ x) (pow_small ρ x h) (bytes_forgotten x w.class h s.class_bytes);
        unequal_bytes = bytes_forgotten x w.unequal h s.unequal_bytes;
        result_bytes = bytes_renewed x f one two w.result h s.result_bytes;
        ever_bytes = bytes_forgotten x (line_added ρ f one two w.ever) h (bytes_line f one two w.ever (s.class_bytes z) s.ever_bytes);
      }

  pub shaped_performed : (w : Window) (l : Letter) → WithinLayout ρ φ l → Shaped ρ φ w → Shaped ρ φ (perform_in_layout ρ φ w l)
  unfolding apply_of
  shaped_performed w (Copy x y) (xb, _) s = shaped_copied w x y xb s
  shaped_performed w (Apply x f y z) (xb, _, _, _) s = let r = least_in ρ (get_or w.result (place ρ f y z) 0) in
      by_test (ltb r ρ) (λ t. rw t (shaped_copied w x r xb s)) (λ t. rw t (shaped_applied w x f y z xb s))
  shaped_performed w (Equal x y) (xb, _) s = shaped_equal w x y xb s
  shaped_performed w (Unequal x y) b s = shaped_unequal w x y s

  pub shaped_fresh : (n : ℕ) → Shaped ρ φ (fresh_in_layout ρ φ n)
  unfolding own_of
  shaped_fresh n = record {
    class = table_length (own_of n) ρ;
    unequal = length-replicate ρ 0;
    result = length-replicate (φ * ρ * ρ) 0;
    ever = length-replicate (φ * ρ) 0;
    mark = length-replicate ρ false;
    class_bytes = bytes_table (own_of n) ρ (λ k h. by_test (ltb k n) (λ t. rw t (pow_small ρ k h)) (λ t. rw t (none_small ρ)));
    unequal_bytes = bytes_zero ρ;
    result_bytes = bytes_zero (φ * ρ * ρ);
    ever_bytes = bytes_zero (φ * ρ);
  }
