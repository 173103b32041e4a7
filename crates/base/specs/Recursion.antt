-- A definition that calls itself at arguments of a smaller measure: one step of it is written.
use Rattle.std.specs.Prelude.{ℕ, zero, suc}

module _ {S R : Type 0} (size : S → ℕ) (none : S → R) (step : (S → R) → S → R) where
  -- k calls deep at most
  unfoldable pub within_calls : ℕ → S → R
  within_calls zero x = none x
  within_calls (suc k) x = step (within_calls k) x

  unfoldable pub fixed : S → R
  unfolding within_calls
  fixed x = within_calls (suc (size x)) x
