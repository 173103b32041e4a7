-- A mask as a set of numbers: i is in the mask m if its bit i is set.
use Rattle.std.specs.Prelude.{ℕ, ◌/◌, ◌%◌, ◌^◌, Bool, eqb}

-- bit i of m, 0 or 1
abbrev pub bit : ℕ → ℕ → ℕ
bit m i = m / 2 ^ i % 2

abbrev pub has : ℕ → ℕ → Bool
has m i = eqb (bit m i) 1
