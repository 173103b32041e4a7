-- The least number of a mask, and how many it has.
use Rattle.std.specs.Prelude.{ℕ, zero, suc, ◌+◌}
use Rattle.base.specs.Choice.{pick}
use Rattle.base.specs.Masks.{has, bit}

-- the least number from i on that is in the mask, of the k numbers from there; i + k if none is
unfoldable pub least_from : ℕ → ℕ → ℕ → ℕ
least_from i zero m = i
least_from i (suc k) m = pick (has m i) (λ _. i) λ _. least_from (suc i) k m

-- the least number below k that is in the mask
unfoldable pub least_in : ℕ → ℕ → ℕ
least_in k m = least_from 0 k m

-- how many of the k numbers from i on are in the mask
unfoldable pub size_from : ℕ → ℕ → ℕ → ℕ
size_from i zero m = 0
size_from i (suc k) m = bit m i + size_from (suc i) k m

-- how many numbers below k are in the mask
unfoldable pub size_of : ℕ → ℕ → ℕ
size_of k m = size_from 0 k m
