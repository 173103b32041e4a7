-- A list filled with one value from the front, and the laws of the loop that does it.
use mathlib.Core.Path.{◌≡◌}
use Prim.Native.Nat.{ℕ, ◌+◌, ◌<◌}
use native.Mathlib.Omega.{arith}
use mathlib.Core.List.{List, ◌++◌, append-nil}
use lib.ListN.{length, drop, set, replicate, drop_of_length-le}
use borrow.Author.Fill as fill

-- v in the first k places of d
pub filled : ℕ → ℕ → List ℕ → List ℕ
filled k v d = replicate k v ++ drop k d

pub filled_none : (v : ℕ) (d : List ℕ) → d ≡ filled 0 v d
unfolding filled
filled_none v d = fill.fill_none d v

pub filled_more : (k v : ℕ) (d e : List ℕ) → k < length d → e ≡ filled k v d → set e k v ≡ filled (k + 1) v d
unfolding filled
filled_more k v d e h p = rw p (fill.fill_more k v d h)

pub filled_all : (k n v : ℕ) (d : List ℕ) → k ≡ n → length d ≡ n → filled k v d ≡ replicate n v
unfolding filled
filled_all k n v d e h = rw (e, drop_of_length-le d {i = n} (omega arith), append-nil (replicate n v))
