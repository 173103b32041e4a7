-- The window after a letter, and whether the letter is coherent, for every layout of ρ registers and φ functions and every window
-- value: what the code computes (SPEC 5.6).
use Rattle.std.specs.Prelude.{Bool, true, false, cond, ◌||◌, List, ℕ, zero, suc, ◌+◌, ◌*◌, ◌^◌, ◌<◌, eqb, ltb, get_or, set, replicate}
use Rattle.std.specs.Int.Bits.{bit_and, bit_or}
use Rattle.base.specs.Choice.{pick}
use Rattle.base.specs.Masks.{has}
use Rattle.base.specs.LeastAndSize.{least_in, size_of}
use Rattle.letters.specs.declared.Letter.{Letter}
use Rattle.letters.specs.declared.Letter.TheVariants.{Copy, Apply, Equal, Unequal}
use Rattle.window.specs.Places.{place}
use Rattle.window.specs.Table.{table}
use Rattle.window.specs.Bits.{nonempty, minus}
use Rattle.window.specs.Through.{masks_through, results_through}
use Rattle.window.specs.Adding.{part_of, line_added, masks_forgotten, results_forgotten}
use Rattle.window.specs.Marks.{lost_of, marked_with}
use Rattle.window.specs.Counting.{count_at_start, one_fewer, count_left, count_made}
use Rattle.window.specs.declared.Window.{Window}

-- the window with other tables and marks, and another number of classes
abbrev pub with_tables : Window → List ℕ → List ℕ → List ℕ → List ℕ → List Bool → ℕ → Window
with_tables w class unequal result ever mark count = record {
  class = class;
  unequal = unequal;
  result = result;
  ever = ever;
  mark = mark;
  infeasible = w.infeasible;
  classes = count;
}

abbrev pub with_unequal : Window → List ℕ → Bool → Window
with_unequal w unequal infeasible = record {
  class = w.class;
  unequal = unequal;
  result = w.result;
  ever = w.ever;
  mark = w.mark;
  infeasible = infeasible;
  classes = w.classes;
}

-- the registers of the classes of a and b
abbrev pub both_classes : Window → ℕ → ℕ → ℕ
both_classes w a b = bit_or (bit_or (get_or w.class a 0) (get_or w.class b 0)) (2 ^ a)

-- the argument classes, where one of the arguments is x
unfoldable pub arguments_of : ℕ → ℕ → ℕ → ℕ → ℕ → ℕ
arguments_of x y z one two = cond (eqb y x || eqb z x) (bit_or one two) 0

-- the class of register r of n at the start
unfoldable pub own_of : ℕ → ℕ → ℕ
own_of n r = cond (ltb r n) (2 ^ r) 0

-- an equal test is coherent: it is "early", neither side having a mark, or its sides are of one class, whatever their marks (SPEC 5.6)
unfoldable pub early_of : Window → ℕ → ℕ → Bool
early_of w x y = pick (get_or w.mark x false || get_or w.mark y false) (λ _. has (get_or w.class x 0) y) λ _. true

module _ (ρ φ : ℕ) where
  -- ---- a register loses its value

  -- the registers that get a mark as x, of the given class, loses its value: none if another register holds it too
  unfoldable pub fallen_of : ℕ → List ℕ → ℕ → ℕ → ℕ
  fallen_of class result x more = cond (eqb (size_of ρ class) 1) (lost_of ρ φ result x more) 0

  -- x has come to hold what y holds; nothing moves within a class
  unfoldable pub copied_tables : Window → ℕ → ℕ → Window
  copied_tables w x y =
      let marks = marked_with ρ w.mark (fallen_of (get_or w.class x 0) w.result x 0) in
      with_tables w (masks_through ρ y y (2 ^ x) w.class) (masks_through ρ y y (2 ^ x) w.unequal) (results_through ρ y y (2 ^ x) w.result)
      (masks_through ρ y y (2 ^ x) w.ever) (set marks x (get_or marks y false)) (count_left ρ (get_or w.class x 0) w.classes)

  unfoldable pub copied_of : Window → ℕ → ℕ → Window
  copied_of w x y = pick (has (get_or w.class x 0) y) (λ _. w) λ _. copied_tables w x y

  -- ---- an equal test

  -- the classes of a and b made one
  unfoldable pub merged_of : Window → ℕ → ℕ → Window
  merged_of w a b = with_tables w (masks_through ρ a b (both_classes w a b) w.class) (masks_through ρ a b (both_classes w a b) w.unequal)
      (results_through ρ a b (both_classes w a b) w.result) (masks_through ρ a b (both_classes w a b) w.ever) w.mark (one_fewer w.classes)

  -- the registers of the entry that are not in the class of its lowest register
  unfoldable pub rest_of : List ℕ → ℕ → ℕ
  rest_of class entry = cond (ltb (least_in ρ entry) ρ) (minus entry (get_or class (least_in ρ entry) 0)) 0

  -- of k results from i on, the first that is in two classes, or the empty mask
  unfoldable pub find_of : List ℕ → List ℕ → ℕ → ℕ → ℕ
  find_of class result i zero = 0
  find_of class result i (suc k) = pick (nonempty ρ (rest_of class (get_or result i 0))) (λ _. get_or result i 0) λ _. find_of class result (suc i) k

  -- classes are made one until no result is in two classes, with so many merges at most
  unfoldable pub closed_of : ℕ → Window → Window
  closed_of zero w = w
  closed_of (suc n) w =
      let entry = find_of w.class w.result 0 (φ * ρ * ρ) in
      let one = least_in ρ entry in
      let two = least_in ρ (rest_of w.class entry) in
      pick (ltb one ρ) (λ _. pick (ltb two ρ) (λ _. closed_of n (merged_of w one two)) λ _. w) λ _. w

  -- a is known unequal to one of the others
  unfoldable pub apart_of : List ℕ → ℕ → ℕ → Bool
  apart_of unequal a others = nonempty ρ (bit_and (get_or unequal a 0) others)

  -- of the registers below k, one is known unequal to another of its class
  unfoldable pub clash_of : List ℕ → List ℕ → ℕ → Bool
  clash_of class unequal zero = false
  clash_of class unequal (suc k) = clash_of class unequal k || apart_of unequal k (get_or class k 0)

  -- "Once infeasible, it has no unequal pairs." (SPEC 5.2, 5.6)
  unfoldable pub settled_of : Window → Bool → Window
  settled_of w bad = pick (w.infeasible || bad) (λ _. with_unequal w (replicate ρ 0) true) λ _. w

  unfoldable pub equal_of : Window → ℕ → ℕ → Window
  equal_of w x y = pick (has (get_or w.class x 0) y) (λ _. w) λ _. let next = closed_of (ρ * ρ + 1) (merged_of w x y) in
      settled_of next (clash_of next.class next.unequal ρ)

  -- ---- an unequal test

  -- the unequal pairs, with the classes one and two put apart
  unfoldable pub parted_of : List ℕ → ℕ → ℕ → List ℕ
  parted_of l one two = table (λ r. bit_or (bit_or (get_or l r 0) (part_of one two r)) (part_of two one r)) ρ

  unfoldable pub unequal_of : Window → ℕ → ℕ → Window
  unequal_of w x y = settled_of (with_unequal w (parted_of w.unequal (get_or w.class x 0) (get_or w.class y 0)) w.infeasible) (has (get_or w.class x 0) y)

  -- ---- an application

  -- x := f(y, z), a value that was never computed
  unfoldable pub applied_of : Window → ℕ → ℕ → ℕ → ℕ → Window
  applied_of w x f y z =
      let one = get_or w.class y 0 in
      let two = get_or w.class z 0 in
      with_tables w (set (masks_forgotten ρ x w.class) x (2 ^ x)) (masks_forgotten ρ x w.unequal) (results_forgotten ρ x f one two w.result)
      (masks_forgotten ρ x (line_added ρ f one two w.ever))
      (set (marked_with ρ w.mark (fallen_of (get_or w.class x 0) w.result x (arguments_of x y z one two))) x false)
      (count_made ρ (get_or w.class x 0) w.classes)

  -- x := f(y, z): a value that is known is copied from the register that holds it
  unfoldable pub apply_of : Window → ℕ → ℕ → ℕ → ℕ → Window
  apply_of w x f y z = let r = least_in ρ (get_or w.result (place ρ f y z) 0) in pick (ltb r ρ) (λ _. copied_of w x r) λ _. applied_of w x f y z

  -- ---- the header alone (SPEC 5.3)

  abbrev pub fresh_in_layout : ℕ → Window
  fresh_in_layout n = record {
    class = table (own_of n) ρ;
    unequal = replicate ρ 0;
    result = replicate (φ * ρ * ρ) 0;
    ever = replicate (φ * ρ) 0;
    mark =
        replicate ρ false;
    infeasible = false;
    classes = count_at_start ρ n;
  }

  -- ---- a letter

  -- the letter's fields are within the packing's
  abbrev pub WithinLayout : Letter → Type 0
  WithinLayout (Copy x y) = (x < ρ) × (y < ρ)
  WithinLayout (Apply x f y z) = (x < ρ) × (f < φ) × (y < ρ) × (z < ρ)
  WithinLayout (Equal x y) = (x < ρ) × (y < ρ)
  WithinLayout (Unequal x y) = (x < ρ) × (y < ρ)

  -- "Memoizing": a register holds the value, or it was never computed (SPEC 5.6)
  unfoldable pub memoizing_of : Window → ℕ → ℕ → ℕ → Bool
  memoizing_of w f y z = cond (has (get_or w.ever (ρ * f + y) 0) z) (nonempty ρ (get_or w.result (place ρ f y z) 0)) true

  -- the letter is coherent
  abbrev pub judge_in_layout : Window → Letter → Bool
  judge_in_layout w (Copy x y) = true
  judge_in_layout w (Apply x f y z) = memoizing_of w f y z
  judge_in_layout w (Equal x y) = early_of w x y
  judge_in_layout w (Unequal x y) = true

  -- the window after it
  abbrev pub perform_in_layout : Window → Letter → Window
  perform_in_layout w (Copy x y) = copied_of w x y
  perform_in_layout w (Apply x f y z) = apply_of w x f y z
  perform_in_layout w (Equal x y) = equal_of w x y
  perform_in_layout w (Unequal x y) = unequal_of w x y
