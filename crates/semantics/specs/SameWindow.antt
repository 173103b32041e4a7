-- When two states have the same window: they agree on each of its six parts, for the registers of the header (SPEC 5.5).
-- Nothing here depends on how a window is kept.
use Rattle.std.specs.Prelude.{◌≡◌, ◌↔◌, ℕ, ◌<◌}
use Rattle.semantics.specs.Terms.{State}
use Rattle.semantics.specs.Models.{Feasible}
use Rattle.semantics.specs.Window.{Same, Apart, Result, EverComputed, Marked}

-- "The classes, the known-unequal pairs of held classes, the held results, which applications to held classes were ever computed,
-- which held classes have above them a computed application with an argument or result that no register holds, and whether the trace is infeasible." (SPEC 5.2)
pub record SameWindow (σ τ : State) : Type 0 where
  pub registers : σ.header.registers ≡ τ.header.registers
  pub same : (r s : ℕ) → r < σ.header.registers → s < σ.header.registers → Same σ r s ↔ Same τ r s
  pub apart : (r s : ℕ) → r < σ.header.registers → s < σ.header.registers → (Feasible σ × Apart σ r s) ↔ (Feasible τ × Apart τ r s)
  pub result : (f a b r : ℕ) → a < σ.header.registers → b < σ.header.registers → r < σ.header.registers → Result σ f a b r ↔ Result τ f a b r
  pub ever : (f a b : ℕ) → a < σ.header.registers → b < σ.header.registers → EverComputed σ f a b ↔ EverComputed τ f a b
  pub marked : (r : ℕ) → r < σ.header.registers → Marked σ r ↔ Marked τ r
  pub infeasible : (¬ Feasible σ) ↔ (¬ Feasible τ)
