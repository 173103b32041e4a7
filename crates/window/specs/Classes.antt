-- How many classes a state has: "From a fresh window on, it equals the count of classes there and after every letter" (document 02, 6; SPEC 5.8).
use Rattle.std.specs.Prelude.{◌≡◌, ◌↔◌, ℕ, ◌<◌}
use Rattle.semantics.specs.Terms.{State}
use Rattle.semantics.specs.Window.{Same}

-- The classes of the declared registers can be numbered from 0 to n, n left out: registers have one number exactly if they are in one class (SPEC 5.1),
-- and each number is that of a register.
pub record ClassCount (σ : State) (n : ℕ) : Type 0 where
  pub number : ℕ → ℕ
  pub below : (r : ℕ) → r < σ.header.registers → number r < n
  pub same : (r s : ℕ) → r < σ.header.registers → s < σ.header.registers → (number r ≡ number s) ↔ Same σ r s
  pub onto : (k : ℕ) → k < n → (r : ℕ) × (r < σ.header.registers) × (number r ≡ k)
