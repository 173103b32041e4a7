-- A list changed entry by entry, as a loop does it in place.
use Rattle.std.specs.Prelude.{ℕ, zero, suc, List, [], ◌∷◌}

module _ {ℓ} {A : Type ℓ} (f : ℕ → A → A) where
  -- f at each entry and its place, counted from i
  unfoldable pub each_from : ℕ → List A → List A
  each_from i [] = []
  each_from i (x ∷ xs) = f i x ∷ each_from (suc i) xs

  -- the first k entries changed, the others as they were
  unfoldable pub each_up_to_from : ℕ → ℕ → List A → List A
  each_up_to_from i zero xs = xs
  each_up_to_from i (suc k) [] = []
  each_up_to_from i (suc k) (x ∷ xs) = f i x ∷ each_up_to_from (suc i) k xs

-- ---- as code uses them: the places count from 0, and go up by one

module _ {ℓ} {A : Type ℓ} (f : ℕ → A → A) where
  -- f at each place and the entry there
  unfoldable pub each : List A → List A
  each xs = each_from f 0 xs

  -- the same of the first k entries only: what the list holds after k turns of the loop
  unfoldable pub each_up_to : ℕ → List A → List A
  each_up_to k xs = each_up_to_from f 0 k xs
