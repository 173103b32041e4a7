-- The laws of masks: what the machine's operations on bits do to the set.
use mathlib.Core.Path.{◌≡◌, refl, sym, ap, ◌∙◌, subst}
use mathlib.Core.Logic.{◌⊎◌, ⊎_elim}
use Prim.Native.Nat.{ℕ, zero, suc, ◌+◌, ◌-◌, ◌*◌, ◌/◌, ◌%◌, ◌^◌, ◌≤◌, ◌<◌}
use native.Mathlib.Omega.{arith}
use native.Mathlib.Nat.{add-zero, add-suc, suc-add, eq-or-lt_of_le, zero-add, one-mul, div-one, div_self, div-eq_of_lt, mod-lt, pow-suc}
use native.Mathlib.Numerals.{add-one}
use mathlib.Core.Bool.{true, false}
use lib.Dec.{ltb}
use lib.Arith.{lt-one}
use lib.Pow.{pow_pos, pow-lt, pow-add, shl_exact, shl-shr, shr-shr, shr_lt}
use lib.Bits.{bit_and, bit_or, and_shr, or_shr, and_mod, or_mod, or_zero_r}
use lib.Count.{count_trailing_zeros, ones, ones_step}
use borrow.Author.Tests.{eqb-true, eqb-false, ltb-true, ltb-false}
use Rattle.base.proofs.Theory.Choice.{by_test}
use Rattle.base.specs.Masks.{bit, has}
use Rattle.base.specs.LeastAndSize.{least_from, least_in, size_from, size_of}

-- a shift of one by less than the width
pub shl_one : (w i : ℕ) → i < w → (1 * 2 ^ i) % 2 ^ w ≡ 2 ^ i
shl_one w i h = shl_exact {a = 1} 1 i w (omega arith) (omega arith) ∙ one-mul (2 ^ i)

-- the bits of x / 2 ^ i, one further on
next : (m i : ℕ) → m / 2 ^ i / 2 ≡ m / 2 ^ suc i
next m i = shr-shr m i 1 ∙ ap (λ n. m / 2 ^ n) (add-one i)

-- ---- the least number

from_trailing : (i k m : ℕ) → least_from i k m ≡ i + count_trailing_zeros k (m / 2 ^ i)
unfolding least_from count_trailing_zeros
from_trailing i zero m = sym (add-zero i)
from_trailing i (suc k) m =
    let ih = from_trailing (suc i) k m in
    by_test (has m i)
    (λ t. rw (t, eqb-true (bit m i) 1 t) (sym (add-zero i)))
    λ t. let z : bit m i ≡ 0 = omega (arith, eqb-false (bit m i) 1 t) in rw (t, z) (ih ∙ rw next (suc-add i _ ∙ sym (add-suc i _)))

-- what `trailing_zeros` gives is the least number in the mask
pub trailing_least : (k m : ℕ) → count_trailing_zeros k m ≡ least_in k m
unfolding least_in
trailing_least k m = sym (from_trailing 0 k m ∙ zero-add _ ∙ ap (count_trailing_zeros k) (div-one m))

-- ---- the size

from_ones : (i k m : ℕ) → m / 2 ^ i < 2 ^ k → size_from i k m ≡ ones (m / 2 ^ i)
unfolding size_from ones
from_ones i zero m h = sym (ap ones (lt-one h))
from_ones i (suc k) m h =
    sym (ones_step (m / 2 ^ i) ∙ rw next (ap (λ n. bit m i + n) (sym (from_ones (suc i) k m (rw (← next m i) (shr_lt {n = m / 2 ^ i} k 1 (rw add-one h)))))))

-- what `count_ones` gives is the size of the mask
pub ones_size : (k m : ℕ) → m < 2 ^ k → ones m ≡ size_of k m
unfolding size_of
ones_size k m h = sym (from_ones 0 k m (rw div-one h) ∙ ap ones (div-one m))

-- ---- the least number is in the mask, and no smaller one is

from_below : (i k m j : ℕ) → i ≤ j → j < least_from i k m → has m j ≡ false
unfolding least_from
from_below i zero m j h = λ g. absurd (omega arith)
from_below i (suc k) m j h =
    by_test (has m i) (λ t. rw t λ g. absurd (omega arith))
    λ t. rw t λ g. ⊎_elim (λ e. subst (λ n. has m n ≡ false) e t) (λ l. from_below (suc i) k m j l g) (eq-or-lt_of_le h)

pub least_below : (k m j : ℕ) → j < least_in k m → has m j ≡ false
unfolding least_in
least_below k m j h = from_below 0 k m j (omega arith) h

from_in : (i k m : ℕ) → least_from i k m < i + k → has m (least_from i k m) ≡ true
unfolding least_from
from_in i zero m = λ h. absurd (omega arith)
from_in i (suc k) m =
    by_test (has m i) (λ t. rw t λ h. t)
    λ t. rw t λ h. from_in (suc i) k m (omega arith)

pub least-in : (k m : ℕ) → least_in k m < k → has m (least_in k m) ≡ true
unfolding least_in
least-in k m h = from_in 0 k m (omega arith)

-- ---- the bits of a union, of a common part and of a single number

pub bit-or : (a b i : ℕ) → bit (bit_or a b) i ≡ bit_or (bit a i) (bit b i)
bit-or a b i = rw or_shr (or_mod (a / 2 ^ i) (b / 2 ^ i) 1)

pub bit-and : (a b i : ℕ) → bit (bit_and a b) i ≡ bit_and (bit a i) (bit b i)
bit-and a b i = rw and_shr (and_mod (a / 2 ^ i) (b / 2 ^ i) 1)

pub bit_single_same : (i : ℕ) → bit (2 ^ i) i ≡ 1
bit_single_same i = rw (div_self (pow_pos i))

above : (d j : ℕ) → bit (2 ^ (suc d + j)) j ≡ 0
above d j = rw (pow-add 2 (suc d) j, shl-shr (2 ^ suc d) j, pow-suc 2 d) (omega arith)

pub bit_single_other : (i j : ℕ) → (i ≡ j → ⊥) → bit (2 ^ i) j ≡ 0
bit_single_other i j f = by_test (ltb i j)
    (λ t. rw (div-eq_of_lt (pow-lt (ltb-true i j t))))
    λ t. let l = ltb-false i j t in
    let e : suc (i - suc j) + j ≡ i = omega arith in
    subst (λ n. bit (2 ^ n) j ≡ 0) e (above (i - suc j) j)

-- a mask with i in it: the bit i, and the others
pub with_same : (m i : ℕ) → bit (bit_or m (2 ^ i)) i ≡ 1
with_same m i = rw (bit-or, bit_single_same) (or_one (bit m i) (mod-lt (m / 2 ^ i) (omega arith)))
  where
    or_one : (x : ℕ) → x < 2 → bit_or x 1 ≡ 1
    or_one zero h = refl
    or_one (suc zero) h = refl
    or_one (suc (suc x)) h = absurd (omega arith)

pub with_other : (m i j : ℕ) → (i ≡ j → ⊥) → bit (bit_or m (2 ^ i)) j ≡ bit m j
with_other m i j f = rw (bit-or, bit_single_other i j f) (or_zero_r (bit m j))

-- two masks below 2 ^ k with the same bits are the same
pub bits_same : (k a b : ℕ) → a < 2 ^ k → b < 2 ^ k → ((i : ℕ) → i < k → bit a i ≡ bit b i) → a ≡ b
bits_same zero a b p q h = lt-one p ∙ sym (lt-one q)
bits_same (suc k) a b p q h =
    let low = h 0 (omega arith) in
    let ha : a / 2 < 2 ^ k = shr_lt {n = a} k 1 (rw add-one p) in
    let hb : b / 2 < 2 ^ k = shr_lt {n = b} k 1 (rw add-one q) in
    let e = bits_same k (a / 2) (b / 2) ha hb (λ i l. rw (halves a i, halves b i) (h (suc i) (omega arith))) in
    let low' : a % 2 ≡ b % 2 = rw (div-one a, div-one b) at low in
    omega arith
  where
    halves : (n i : ℕ) → n / 2 / 2 ^ i ≡ n / 2 ^ suc i
    halves n i = shr-shr n 1 i ∙ ap (λ j. n / 2 ^ j) (suc-add 0 i ∙ ap suc (zero-add i))
