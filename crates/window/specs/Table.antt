-- A list given place by place.
use Rattle.std.specs.Prelude.{ℕ, zero, suc, List, [], ◌∷◌}

module _ {ℓ} {A : Type ℓ} (F : ℕ → A) where
  -- F at the n places from i on
  unfoldable pub table_from : ℕ → ℕ → List A
  table_from i zero = []
  table_from i (suc n) = F i ∷ table_from (suc i) n

  -- F 0, F 1 and so on, n of them
  unfoldable pub table : ℕ → List A
  table n = table_from 0 n
