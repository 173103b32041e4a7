-- A part of a slice that is lent from a place to the end, `&mut s[a..]`: what is lent, and what comes back.
use mathlib.Core.Path.{◌≡◌}
use Prim.Native.Nat.{ℕ, ◌-◌}
use native.Mathlib.Omega.{arith}
use mathlib.Core.List.{List, ◌++◌, append-nil}
use lib.ListN.{length, take, drop, length-drop, drop_of_length-le}
use lib.Seq.{take_all}

module _ {ℓ} {A : Type ℓ} (a : ℕ) (xs : List A) where
  -- what is lent is all from a on
  pub tail_lent : take (length xs - a) (drop a xs) ≡ drop a xs
  tail_lent = take_all (length xs - a) (drop a xs) (simp length-drop (omega arith))

  -- what comes back is what stood before a, and then what the callee left
  pub tail_back : (ys : List A) → take a xs ++ (ys ++ drop (length xs - a) (drop a xs)) ≡ take a xs ++ ys
  tail_back ys = rw (drop_of_length-le (drop a xs) {i = length xs - a} (simp length-drop (omega arith)), append-nil ys)
