-- The lists of names as arrays hold them while they are read.
use Rattle.std.specs.Prelude.{◌≡◌, ℕ, ◌≤◌, List, length, take}
use Rattle.syntax.specs.Answer.{padded}

-- the first `count` of n entries are names, and 0 stands behind them
pub record NamesPadded (n : ℕ) (names : List ℕ) (count : ℕ) : Type 0 where
  pub few : count ≤ n
  pub pad : names ≡ padded n (take count names)
  pub size : length (take count names) ≡ count
