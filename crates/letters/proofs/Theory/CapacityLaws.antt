-- N is the greatest number of pairs, at most 1,024, whose records the lent table has room for.
use Prim.Native.Nat.{ℕ, ◌*◌, ◌≤◌, ◌<◌, ◌/◌}
use native.Mathlib.Omega.{arith}
use native.Mathlib.Nat.{le-div_iff_mul-le, mul_comm}
use Rattle.letters.specs.Editions.{Edition}
use Rattle.letters.specs.Capacity.{capacity_of, most_pairs}

module _ (e : Edition) (some : 0 < e.pair_bytes) where
  pub capacity_fits : (bytes : ℕ) → e.pair_bytes * capacity_of e bytes ≤ bytes
  unfolding capacity_of
  capacity_fits bytes = rw (mul_comm e.pair_bytes (capacity_of e bytes)) ((le-div_iff_mul-le some).0 (omega arith))

  pub capacity_most : (bytes k : ℕ) → k ≤ most_pairs → e.pair_bytes * k ≤ bytes → k ≤ capacity_of e bytes
  unfolding capacity_of
  capacity_most bytes k few room =
      let z : k ≤ bytes / e.pair_bytes = (le-div_iff_mul-le some).1 (rw (mul_comm e.pair_bytes k) at room) in
      omega arith
