-- What follows from the definitions of specs/Packing.antt.
use mathlib.Core.Path.{◌≡◌, refl, sym, ap, ◌∙◌}
use Prim.Native.Nat.{ℕ, suc, ◌+◌, ◌*◌, ◌%◌, ◌^◌, ◌≤◌, ◌<◌}
use native.Mathlib.Omega.{arith}
use native.Mathlib.Nat.{mod-eq_of_lt, add_assoc, mul_assoc, add-mul, zero-mul, zero-add, suc-mul, mul-le-mul_right}
use mathlib.Core.List.{List, [], ◌∷◌}
use lib.ListN.{length}
use lib.Pow as pow
use Rattle.letters.specs.Packing.{total, Sized, join, split}

-- ---- laws

pub split_length : (widths : List ℕ) (n : ℕ) → length (split widths n) ≡ length widths
split_length [] n = refl
split_length (k ∷ widths) n = ap suc (split_length widths n)

pub join_lt : (widths values : List ℕ) → Sized widths values → join widths values < 2 ^ total widths
join_lt [] [] s = omega arith
join_lt [] (v ∷ values) s = absurd s
join_lt (k ∷ widths) [] s = absurd s
join_lt (k ∷ widths) (v ∷ values) s =
    rw (pow.pow-add 2 k (total widths)) (below v (2 ^ k) (2 ^ total widths) (join widths values) s.0 (join_lt widths values s.1))
  where
    below : (v a b j : ℕ) → v < a → j < b → v * b + j < a * b
    below v a b j h g = let l : suc v * b ≤ a * b = mul-le-mul_right b h in omega (arith, suc-mul v b)

-- values, joined with anything above them, are there again
split_above : (widths values : List ℕ) (c : ℕ) → Sized widths values → split widths (c * 2 ^ total widths + join widths values) ≡ values
split_above [] [] c s = refl
split_above [] (v ∷ values) c s = absurd s
split_above (k ∷ widths) [] c s = absurd s
split_above (k ∷ widths) (v ∷ values) c s =
    let j = join_lt widths values s.1 in
    rw (regroup, pow.high (c * 2 ^ k + v) (total widths) j, pow.low c k s.0) (ap (λ l. v ∷ l) (split_above widths values (c * 2 ^ k + v) s.1))
  where
    regroup : c * 2 ^ (k + total widths) + (v * 2 ^ total widths + join widths values) ≡ (c * 2 ^ k + v) * 2 ^ total widths + join widths values
    regroup = rw (pow.pow-add 2 k (total widths), ← add_assoc, ← mul_assoc, ← add-mul)

-- the values come back
pub split_join : (widths values : List ℕ) → Sized widths values → split widths (join widths values) ≡ values
split_join widths values s = rw (zero-mul, zero-add) at (split_above widths values 0 s)

join_low : (widths : List ℕ) (n : ℕ) → join widths (split widths n) ≡ n % 2 ^ total widths
join_low [] n = omega arith
join_low (k ∷ widths) n = rw (join_low widths n) (sym (pow.mod-pow-add n k (total widths)))

-- the number comes back
pub join_split : (widths : List ℕ) (n : ℕ) → n < 2 ^ total widths → join widths (split widths n) ≡ n
join_split widths n h = join_low widths n ∙ mod-eq_of_lt h
