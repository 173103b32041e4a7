-- One list laid over the front of another, and the laws of the loop that does it, an entry a turn.
use mathlib.Core.Path.{◌≡◌, refl, ap}
use Prim.Native.Nat.{ℕ, zero, suc, ◌+◌, ◌-◌, ◌≤◌, ◌<◌}
use native.Mathlib.Omega.{arith}
use native.Mathlib.Numerals.{add-one}
use mathlib.Core.List.{List, [], ◌∷◌, ◌++◌, append-nil}
use lib.ListN.{length, get_or, take, drop, set, length-append, length-take, length-drop, drop_of_length-le}
use lib.Seq.{take_all}

module _ {ℓ} {A : Type ℓ} where
  -- the first k entries of r, and then d from there on: what d holds after k turns
  pub laid : ℕ → List A → List A → List A
  laid k r d = take k r ++ drop k d

  pub laid_none : (r d : List A) → d ≡ laid 0 r d
  unfolding laid
  laid_none [] d = refl
  laid_none (x ∷ r) d = refl

  step : (k : ℕ) (r d : List A) (z : A) → k < length r → k < length d → set (take k r ++ drop k d) k (get_or r k z) ≡ take (suc k) r ++ drop (suc k) d
  step k [] d z h g = absurd (omega arith)
  step k (x ∷ r) [] z h g = absurd (omega arith)
  step zero (x ∷ r) (y ∷ d) z h g = ap (λ l. x ∷ l) (laid_zero r d)
    where
      laid_zero : (r d : List A) → d ≡ take zero r ++ drop zero d
      laid_zero [] d = refl
      laid_zero (x ∷ r) d = refl
  step (suc k) (x ∷ r) (y ∷ d) z h g = ap (λ l. x ∷ l) (step k r d z (omega arith) (omega arith))

  pub laid_more : (k : ℕ) (r d e : List A) (z v : A) → k < length r → k < length d → e ≡ laid k r d → v ≡ get_or r k z → set e k v ≡ laid (k + 1) r d
  unfolding laid
  laid_more k r d e z v h g p q = rw (p, q, add-one) (step k r d z h g)

  pub laid_length : (k : ℕ) (r d : List A) → k ≤ length r → k ≤ length d → length (laid k r d) ≡ length d
  unfolding laid
  laid_length k r d h g = simp (length-append, length-take, length-drop) (omega arith)

  pub laid_all : (k : ℕ) (r d : List A) → length r ≡ k → laid k r d ≡ r ++ drop (length r) d
  unfolding laid
  laid_all k r d h = rw (take_all k r (omega arith), h)

  pub laid_over : (k n : ℕ) (r d : List A) → k ≡ n → length d ≤ n → laid k r d ≡ take n r
  unfolding laid
  laid_over k n r d e h = rw (e, drop_of_length-le d h, append-nil (take n r))
