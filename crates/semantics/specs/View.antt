-- A window as what it says of registers and functions, and when it is that of a state.
use Rattle.std.specs.Prelude.{Bool, ℕ, ◌<◌, ◌↔◌, T}
use Rattle.semantics.specs.Terms.{State}
use Rattle.semantics.specs.Models.{Feasible}
use Rattle.semantics.specs.Window.{Same, Apart, Result, EverComputed, Marked}

-- A window, as what it says of registers and functions.
pub record View : Type 0 where
  pub same : ℕ → ℕ → Bool
  pub apart : ℕ → ℕ → Bool
  pub result : ℕ → ℕ → ℕ → ℕ → Bool
  pub ever : ℕ → ℕ → ℕ → Bool
  pub marked : ℕ → Bool
  pub infeasible : Bool

-- The view is that of the state. "Once infeasible, it has no unequal pairs." (SPEC 5.2)
pub record Tracks (σ : State) (w : View) : Type 0 where
  pub same : (r s : ℕ) → r < σ.header.registers → s < σ.header.registers → T (w.same r s) ↔ Same σ r s
  pub apart : (r s : ℕ) → r < σ.header.registers → s < σ.header.registers → T (w.apart r s) ↔ (Feasible σ × Apart σ r s)
  pub result : (f a b r : ℕ) → a < σ.header.registers → b < σ.header.registers → r < σ.header.registers → T (w.result f a b r)
      ↔ Result σ f a b r
  pub ever : (f a b : ℕ) → a < σ.header.registers → b < σ.header.registers → T (w.ever f a b) ↔ EverComputed σ f a b
  pub marked : (r : ℕ) → r < σ.header.registers → T (w.marked r) ↔ Marked σ r
  pub infeasible : T w.infeasible ↔ (¬ Feasible σ)
