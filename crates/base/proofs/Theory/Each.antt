-- What follows from the definitions of specs/Each.antt.
use mathlib.Core.Path.{◌≡◌, refl, sym, ap, ◌∙◌}
use Prim.Native.Nat.{ℕ, zero, suc, ◌+◌, ◌≤◌, ◌<◌}
use native.Mathlib.Omega.{arith}
use native.Mathlib.Nat.{add-suc, suc-add, add-zero, zero-add}
use native.Mathlib.Numerals.{add-one}
use mathlib.Core.List.{List, [], ◌∷◌}
use lib.ListN.{length, get_or, set}
use lib.Seq.{set-get_or}
use Rattle.base.specs.Each.{each_from, each_up_to_from, each, each_up_to}

module _ {ℓ} {A : Type ℓ} (f : ℕ → A → A) where
  pub length_done : (i k : ℕ) (xs : List A) → length (each_up_to_from f i k xs) ≡ length xs
  unfolding each_up_to_from
  length_done i zero xs = refl
  length_done i (suc k) [] = refl
  length_done i (suc k) (x ∷ xs) = ap suc (length_done (suc i) k xs)

  done_at : (i k : ℕ) (xs : List A) (d : A) → get_or (each_up_to_from f i k xs) k d ≡ get_or xs k d
  unfolding each_up_to_from
  done_at i zero xs d = refl
  done_at i (suc k) [] d = refl
  done_at i (suc k) (x ∷ xs) d = done_at (suc i) k xs d

  -- past the end of the list both sides are the list, so this asks no bound on k
  done_set : (i k : ℕ) (xs : List A) (d : A) → set (each_up_to_from f i k xs) k (f (i + k) (get_or xs k d)) ≡ each_up_to_from f i (suc k) xs
  unfolding each_up_to_from
  done_set i zero [] d = refl
  done_set i (suc k) [] d = refl
  done_set i zero (x ∷ xs) d = rw add-zero
  done_set i (suc k) (x ∷ xs) d = rw (add-suc i k, ← suc-add i k) (ap (λ l. f i x ∷ l) (done_set (suc i) k xs d))

  done_all : (i k : ℕ) (xs : List A) → length xs ≤ k → each_up_to_from f i k xs ≡ each_from f i xs
  unfolding each_up_to_from each_from
  done_all i zero [] h = refl
  done_all i zero (x ∷ xs) h = absurd (omega arith)
  done_all i (suc k) [] h = refl
  done_all i (suc k) (x ∷ xs) h = ap (λ l. f i x ∷ l) (done_all (suc i) k xs (omega arith))

module _ {ℓ} {A : Type ℓ} (f : ℕ → A → A) where
  from_at : (i k : ℕ) (xs : List A) (d : A) → k < length xs → get_or (each_from f i xs) k d ≡ f (i + k) (get_or xs k d)
  unfolding each_from
  from_at i k [] d h = absurd (omega arith)
  from_at i zero (x ∷ xs) d h = rw add-zero
  from_at i (suc k) (x ∷ xs) d h = from_at (suc i) k xs d (omega arith) ∙ ap (λ m. f m (get_or xs k d)) (suc-add i k ∙ sym (add-suc i k))

-- ---- as code uses them: the places count from 0, and go up by one

module _ {ℓ} {A : Type ℓ} (f : ℕ → A → A) where
  pub each_none : (xs : List A) → xs ≡ each_up_to f 0 xs
  unfolding each_up_to each_up_to_from
  each_none xs = refl

  pub each_read : (k : ℕ) (xs : List A) (d : A) → get_or (each_up_to f k xs) k d ≡ get_or xs k d
  unfolding each_up_to
  each_read k xs d = done_at f 0 k xs d

  pub each_length : (k : ℕ) (xs : List A) → length (each_up_to f k xs) ≡ length xs
  unfolding each_up_to
  each_length k xs = length_done f 0 k xs

  pub each_more : (k : ℕ) (xs : List A) (d : A) → set (each_up_to f k xs) k (f k (get_or xs k d)) ≡ each_up_to f (k + 1) xs
  unfolding each_up_to
  each_more k xs d = rw add-one (ap (λ i. set (each_up_to_from f 0 k xs) k (f i (get_or xs k d))) (sym (zero-add k)) ∙ done_set f 0 k xs d)

  pub each_all : (k : ℕ) (xs : List A) → length xs ≤ k → each_up_to f k xs ≡ each f xs
  unfolding each_up_to each
  each_all k xs h = done_all f 0 k xs h

  -- what stands at a place afterwards
  pub each_at : (k : ℕ) (xs : List A) (d : A) → k < length xs → get_or (each f xs) k d ≡ f k (get_or xs k d)
  unfolding each
  each_at k xs d h = from_at f 0 k xs d h ∙ ap (λ i. f i (get_or xs k d)) (zero-add k)

  -- one turn of the loop: the list ys, as it is after k turns, with v stored at k
  pub each_turn : (k : ℕ) (xs ys : List A) (d u : A) → ys ≡ each_up_to f k xs → u ≡ f k (get_or ys k d) → set ys k u ≡ each_up_to f (k + 1) xs
  each_turn k xs ys d u e g = rw (g, e, each_read k xs d) (each_more k xs d)

  -- a turn that stores nothing, since the entry is already what it is to be
  pub each_skip : (k : ℕ) (xs ys : List A) (d : A) → ys ≡ each_up_to f k xs → get_or ys k d ≡ f k (get_or ys k d) → ys ≡ each_up_to f (k + 1) xs
  each_skip k xs ys d e g = sym (set-get_or ys k d) ∙ each_turn k xs ys d (get_or ys k d) e g

  -- the loop's end, where the count of turns is a number that is known
  pub ended : (xs ys : List A) (k n : ℕ) → ys ≡ each_up_to f k xs → k ≡ n → ys ≡ each_up_to f n xs
  ended xs ys k n e g = rw (← g) e
