-- What follows from the definitions of specs/Performing.antt.
use mathlib.Core.Path.{◌≡◌, refl, ap, ◌∙◌}
use mathlib.Core.Bool.{Bool, true, false, ◌||◌}
use mathlib.Core.List.{List}
use Prim.Native.Nat.{ℕ, suc, ◌+◌, ◌*◌, ◌^◌, ◌-◌, ◌≤◌, ◌<◌}
use native.Mathlib.Omega.{arith}
use native.Mathlib.Numerals.{add-one}
use lib.Bits.{bit_or}
use borrow.Author.Tests.{lt-ltb, le-ltb}
use lib.ListN.{get_or}
use Rattle.base.specs.Masks.{has}
use Rattle.base.specs.LeastAndSize.{least_in}
use Rattle.base.proofs.Theory.MaskLaws.{with_same}
use Rattle.window.specs.Places.{place}
use Rattle.window.specs.Bits.{nonempty, minus}
use Rattle.window.specs.declared.Window.{Window}
use Rattle.window.specs.Performing.{with_unequal, copied_of, merged_of, rest_of, find_of, closed_of, apart_of}
use Rattle.window.specs.Performing.{clash_of, settled_of, equal_of, parted_of, unequal_of, applied_of, apply_of}

pub both_has : (m n a s : ℕ) → s ≡ 2 ^ a → has (bit_or (bit_or m n) s) a ≡ true
both_has m n a s e = rw (e, with_same (bit_or m n) a)

module _ (ρ φ : ℕ) where
  -- ---- the loops

  pub find_more : (class result : List ℕ) (i : ℕ) → i < φ * ρ * ρ → nonempty ρ (rest_of ρ φ class (get_or result i 0)) ≡ false
      → find_of ρ φ class result i (φ * ρ * ρ - i) ≡ find_of ρ φ class result (i + 1) (φ * ρ * ρ - (i + 1))
  unfolding find_of
  find_more class result i h e = let k : φ * ρ * ρ - i ≡ suc (φ * ρ * ρ - (i + 1)) = omega arith in rw (k, e, add-one)

  pub find_here : (class result : List ℕ) (i : ℕ) → i < φ * ρ * ρ → nonempty ρ (rest_of ρ φ class (get_or result i 0)) ≡ true
      → find_of ρ φ class result i (φ * ρ * ρ - i) ≡ get_or result i 0
  unfolding find_of
  find_here class result i h e = let k : φ * ρ * ρ - i ≡ suc (φ * ρ * ρ - (i + 1)) = omega arith in rw (k, e)

  pub find_none : (class result : List ℕ) (i : ℕ) → φ * ρ * ρ ≤ i → find_of ρ φ class result i (φ * ρ * ρ - i) ≡ 0
  unfolding find_of
  find_none class result i h = let k : φ * ρ * ρ - i ≡ 0 = omega arith in rw k

  pub clash_more : (class unequal : List ℕ) (i : ℕ) (b v : Bool) → b ≡ clash_of ρ φ class unequal i → v ≡ apart_of ρ φ unequal i (get_or class i 0)
      → (b || v) ≡ clash_of ρ φ class unequal (i + 1)
  unfolding clash_of
  clash_more class unequal i b v e d = rw (add-one, e, d)

  pub clash_none : (class unequal : List ℕ) → false ≡ clash_of ρ φ class unequal 0
  unfolding clash_of
  clash_none class unequal = refl

  pub clash_all : (class unequal : List ℕ) (b : Bool) (i : ℕ) → i ≤ ρ → ρ ≤ i → b ≡ clash_of ρ φ class unequal i → b ≡ clash_of ρ φ class unequal ρ
  clash_all class unequal b i h g e = e ∙ ap (clash_of ρ φ class unequal) (omega arith)

  pub rest_some : (class : List ℕ) (entry one : ℕ) → one ≡ least_in ρ entry → one < ρ → minus entry (get_or class one 0) ≡ rest_of ρ φ class entry
  unfolding rest_of
  rest_some class entry one e h = rw (← e, lt-ltb one ρ h)

  pub rest_none : (class : List ℕ) (entry one : ℕ) → one ≡ least_in ρ entry → ρ ≤ one → 0 ≡ rest_of ρ φ class entry
  unfolding rest_of
  rest_none class entry one e h = rw (← e, le-ltb one ρ h)

  -- ---- what the functions on the whole window call, one after the other

  pub copied_within : (w : Window) (x y : ℕ) → has (get_or w.class x 0) y ≡ true → w ≡ copied_of ρ φ w x y
  unfolding copied_of
  copied_within w x y h = rw h

  pub apply_known : (w : Window) (x f y z r : ℕ) (v : Window) → r ≡ least_in ρ (get_or w.result (place ρ f y z) 0) → r < ρ → v ≡ copied_of ρ φ w x r
      → v ≡ apply_of ρ φ w x f y z
  unfolding apply_of
  apply_known w x f y z r v e h d = rw (← e, lt-ltb r ρ h, d)

  pub apply_new : (w : Window) (x f y z r : ℕ) (v : Window) → r ≡ least_in ρ (get_or w.result (place ρ f y z) 0) → ρ ≤ r → v ≡ applied_of ρ φ w x f y z
      → v ≡ apply_of ρ φ w x f y z
  unfolding apply_of
  apply_new w x f y z r v e h d = rw (← e, le-ltb r ρ h, d)

  -- ---- one turn of the closing

  module _ (fuel one two entry rest : ℕ) (w : Window) (e : entry ≡ find_of ρ φ w.class w.result 0 (φ * ρ * ρ)) (o : one ≡ least_in ρ entry)
      (r : rest ≡ rest_of ρ φ w.class entry) (t : two ≡ least_in ρ rest) (fb : 0 < fuel) where
    closed_suc : (n : ℕ) (v : Window) → one < ρ → two < ρ → v ≡ merged_of ρ φ w one two → closed_of ρ φ (suc n) w ≡ closed_of ρ φ n v
    unfolding closed_of
    closed_suc n v h g d = rw (← e, ← r, ← o, ← t, lt-ltb one ρ h, lt-ltb two ρ g, d)

    pub closed_more : (v : Window) → one < ρ → two < ρ → v ≡ merged_of ρ φ w one two → closed_of ρ φ fuel w ≡ closed_of ρ φ (fuel - 1) v
    closed_more v h g d = ap (λ m. closed_of ρ φ m w) (omega arith) ∙ closed_suc (fuel - 1) v h g d

    pub closed_one : one < ρ → ρ ≤ two → closed_of ρ φ fuel w ≡ w
    unfolding closed_of
    closed_one h g = let k : fuel ≡ suc (fuel - 1) = omega arith in rw (k, ← e, ← r, ← o, ← t, lt-ltb one ρ h, le-ltb two ρ g)

    pub closed_none : ρ ≤ one → closed_of ρ φ fuel w ≡ w
    unfolding closed_of
    closed_none h = let k : fuel ≡ suc (fuel - 1) = omega arith in rw (k, ← e, ← o, le-ltb one ρ h)

  pub closed_end : (fuel : ℕ) (w : Window) → fuel ≤ 0 → closed_of ρ φ fuel w ≡ w
  unfolding closed_of
  closed_end fuel w h = let k : fuel ≡ 0 = omega arith in rw k

  pub equal_within : (w : Window) (x y : ℕ) → has (get_or w.class x 0) y ≡ true → w ≡ equal_of ρ φ w x y
  unfolding equal_of
  equal_within w x y h = rw h

  pub equal_moved : (w : Window) (x y : ℕ) (m n v : Window) (b : Bool) → has (get_or w.class x 0) y ≡ false → m ≡ merged_of ρ φ w x y
      → n ≡ closed_of ρ φ (ρ * ρ + 1) m → b ≡ clash_of ρ φ n.class n.unequal ρ → v ≡ settled_of ρ φ n b → v ≡ equal_of ρ φ w x y
  unfolding equal_of
  equal_moved w x y m n v b h p q r d = rw (h, d, r, q, p)

  pub unequal_is : (w : Window) (x y : ℕ) (l : List ℕ) (b : Bool) (v : Window) → l ≡ parted_of ρ φ w.unequal (get_or w.class x 0) (get_or w.class y 0)
      → b ≡ has (get_or w.class x 0) y → v ≡ settled_of ρ φ (with_unequal w l w.infeasible) b → v ≡ unequal_of ρ φ w x y
  unfolding unequal_of
  unequal_is w x y l b v p q d = rw (d, p, q)
