-- Numbers: which of two is less, and induction from all smaller ones.
use mathlib.Core.Path.{◌≡◌}
use mathlib.Core.Logic.{◌⊎◌, inl, inr}
use Prim.Native.Nat.{ℕ, zero, suc, ◌≤◌, ◌<◌}
use native.Mathlib.Omega.{arith}
use native.Mathlib.Decide.{dec_lt}

pub less_or : (m n : ℕ) → (m < n) ⊎ (n ≤ m)
less_or m n = elim (dec_lt m n) [ yes l ↦ inl l | no k ↦ inr (omega arith) ]

pub three : (m n : ℕ) → (m < n) ⊎ ((m ≡ n) ⊎ (n < m))
three m n = elim (dec_lt m n) [ yes l ↦ inl l | no k ↦ inr (elim (dec_lt n m) [ yes g ↦ inr g | no j ↦ inl (omega arith) ]) ]

-- Induction from all smaller numbers.
below : (P : ℕ → Type 0) → ((n : ℕ) → ((i : ℕ) → i < n → P i) → P n) → (n i : ℕ) → i < n → P i
below P h zero i l = absurd (omega arith)
below P h (suc n) i l = h i (λ k m. below P h n k (omega arith))

pub strong : (P : ℕ → Type 0) → ((n : ℕ) → ((i : ℕ) → i < n → P i) → P n) → (n : ℕ) → P n
strong P h n = h n (below P h n)
