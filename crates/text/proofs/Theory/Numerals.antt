-- What follows from the definitions of specs/Numerals.antt.
use mathlib.Core.Path.{◌≡◌, refl, sym, ap, ◌∙◌}
use Prim.Native.Nat.{ℕ, zero, suc, ◌+◌, ◌-◌, ◌*◌, ◌/◌, ◌%◌, ◌^◌, ◌≤◌, ◌<◌}
use native.Mathlib.Omega.{arith}
use native.Mathlib.Nat.{pow-suc}
use mathlib.Core.List.{List, [], ◌∷◌, ◌++◌}
use lib.Dec.{ltb}
use lib.ListN.{length, length-append}
use borrow.Author.Tests.{ltb-true, ltb-false, lt-ltb, le-ltb}
use Rattle.base.specs.Choice.{pick}
use Rattle.base.proofs.Theory.Choice.{by_test}
use Rattle.base.specs.Recursion.{within_calls, fixed}
use Rattle.base.proofs.Theory.Recursion.{fixed_law}
use Rattle.text.specs.Numerals.{digit_byte, numeral_step, numeral}

pub numeral_law : (n : ℕ) → numeral n ≡ pick (ltb n 10) (λ _. digit_byte n ∷ []) λ _. numeral (n / 10) ++ (digit_byte (n % 10) ∷ [])
unfolding numeral
numeral_law n = fixed_law (λ n. n) (λ _. []) numeral_step (λ _ _. Unit {0}) (λ _. tt) (λ _ _ _. tt) local n
  where
    local : (f g : ℕ → List ℕ) → ((y : ℕ) → Unit {0}) → (x : ℕ) → ((y : ℕ) → y < x → f y ≡ g y) → numeral_step f x ≡ numeral_step g x
    local f g h x a = by_test (ltb x 10) (λ t. rw t) λ t. let l = ltb-false x 10 t in rw (t, a (x / 10) (omega arith))

pub numeral_one : (n : ℕ) → n < 10 → numeral n ≡ digit_byte (n % 10) ∷ []
numeral_one n h = rw (numeral_law n, lt-ltb n 10 h) (ap (λ (d : ℕ). digit_byte d ∷ []) (small n h))
  where
    small : (n : ℕ) → n < 10 → n ≡ n % 10
    small n h = omega arith

pub numeral_more : (n : ℕ) → 10 ≤ n → numeral n ≡ numeral (n / 10) ++ (digit_byte (n % 10) ∷ [])
numeral_more n h = numeral_law n ∙ rw (le-ltb n 10 h)

-- A fact of every number, where it holds of one digit and passes from the tenth of a number to the number.
by_digits : (P : ℕ → Type 0) → ((n : ℕ) → n < 10 → P n) → ((n : ℕ) → 10 ≤ n → P (n / 10) → P n) → (k n : ℕ) → n < k → P n
by_digits P one more zero n h = absurd (omega arith)
by_digits P one more (suc k) n h = by_test (ltb n 10) (λ t. one n (ltb-true n 10 t))
    λ t. let l = ltb-false n 10 t in more n l (by_digits P one more k (n / 10) (omega arith))

-- ── the numeral is the usual one ──
-- The number that digits make after those of `high`.
abbrev pub number_after : ℕ → List ℕ → ℕ
number_after high [] = high
number_after high (c ∷ s) = number_after (high * 10 + (c - 48)) s

number_last : (high : ℕ) (s : List ℕ) (d : ℕ) → number_after high (s ++ (digit_byte d ∷ [])) ≡ number_after high s * 10 + d
number_last high [] d = omega arith
number_last high (c ∷ s) d = number_last (high * 10 + (c - 48)) s d

-- Its digits make the number.
pub numeral_number : (n : ℕ) → number_after 0 (numeral n) ≡ n
numeral_number n = by_digits (λ n. number_after 0 (numeral n) ≡ n)
    (λ n h. rw (numeral_law n, lt-ltb n 10 h) (omega arith))
    (λ n h e. rw (numeral_law n, le-ltb n 10 h, number_last 0 (numeral (n / 10)) (n % 10), e) (omega arith))
    (suc n) n (omega arith)

-- Two numbers have two numerals.
pub numeral_injective : (m n : ℕ) → numeral m ≡ numeral n → m ≡ n
numeral_injective m n e = sym (numeral_number m) ∙ ap (number_after 0) e ∙ numeral_number n

-- Every byte is a digit.
abbrev pub Digits : List ℕ → Type 0
Digits [] = Unit {0}
Digits (c ∷ s) = (48 ≤ c) × (c ≤ 57) × Digits s

digits_last : (s : List ℕ) (d : ℕ) → d < 10 → Digits s → Digits (s ++ (digit_byte d ∷ []))
digits_last [] d h t = (omega arith, omega arith, tt)
digits_last (c ∷ s) d h t = (t.0, t.1, digits_last s d h t.2)

pub numeral_digits : (n : ℕ) → Digits (numeral n)
numeral_digits n = by_digits (λ n. Digits (numeral n))
    (λ n h. rw (numeral_law n, lt-ltb n 10 h) (omega arith, omega arith, tt))
    (λ n h e. rw (numeral_law n, le-ltb n 10 h) (digits_last (numeral (n / 10)) (n % 10) (omega arith) e))
    (suc n) n (omega arith)

-- The first digit is not 0, unless the number is.
abbrev pub LeadingDigit : ℕ → List ℕ → Type 0
LeadingDigit n [] = ⊥
LeadingDigit n (c ∷ s) = 0 < n → 48 < c

leads_last : (m n : ℕ) (s : List ℕ) (d : ℕ) → 0 < m → LeadingDigit m s → LeadingDigit n (s ++ (d ∷ []))
leads_last m n [] d h t = absurd t
leads_last m n (c ∷ s) d h t = λ _. t h

pub numeral_leads : (n : ℕ) → LeadingDigit n (numeral n)
numeral_leads n = by_digits (λ n. LeadingDigit n (numeral n))
    (λ n h. rw (numeral_law n, lt-ltb n 10 h) (λ z. omega arith))
    (λ n h e. rw (numeral_law n, le-ltb n 10 h) (leads_last (n / 10) n (numeral (n / 10)) (digit_byte (n % 10)) (omega arith) e))
    (suc n) n (omega arith)

-- A number below 10 to the k has at most k digits.
pub numeral_length : (k n : ℕ) → n < 10 ^ suc k → length (numeral n) ≤ suc k
numeral_length zero n h = rw (numeral_law n, lt-ltb n 10 (omega arith)) (omega arith)
numeral_length (suc k) n h = by_test (ltb n 10)
    (λ t. rw (numeral_law n, t) (omega arith))
    λ t. rw (numeral_law n, t, length-append) (omega (arith, numeral_length k (n / 10) (tenth n (10 ^ suc k) (rw (pow-suc 10 (suc k)) at h))))
  where
    tenth : (n p : ℕ) → n < p * 10 → n / 10 < p
    tenth n p h = omega arith

-- a number of 64 bits has at most 20 digits
pub long_number : (n : ℕ) → n < 2 ^ 64 → length (numeral n) ≤ 20
long_number n h = numeral_length 19 n (omega arith)

-- Two of them.
pub numeral_zero : numeral 0 ≡ 48 ∷ []
unfolding numeral fixed within_calls
numeral_zero = refl

pub numeral_341 : numeral 341 ≡ 51 ∷ 52 ∷ 49 ∷ []
unfolding numeral fixed within_calls
numeral_341 = refl
