-- The letters that a run over a trace names: the first incoherent one, and the first infeasible one before it (SPEC 6.2, 6.3; document 01:
-- "An incoherent letter only stops the monitor: it and all later letters move neither window nor infeasible mark").
use Rattle.std.specs.Prelude.{◌≡◌, ◌⊎◌, ℕ, zero, suc, ◌≤◌}
use Rattle.semantics.specs.Terms.{Trace, begin, ◌▸◌, state}
use Rattle.semantics.specs.Prefixes.{Begins}
use Rattle.semantics.specs.Models.{Feasible}
use Rattle.semantics.specs.Coherence.{Coherent}

-- The number of letters.
abbrev pub size : Trace → ℕ
size (begin h) = 0
size (ρ ▸ a) = suc (size ρ)

-- Letter k, from 1, is the first after which P does not hold, where P goes over to beginnings (coherence and feasibility do).
abbrev pub FailsAt : (Trace → Type 0) → Trace → ℕ → Type 0
FailsAt P (begin h) k = ⊥
FailsAt P (ρ ▸ a) k = FailsAt P ρ k ⊎ ((k ≡ suc (size ρ)) × P ρ × ¬ P (ρ ▸ a))

-- P fails first at letter k, or holds of the trace where k is 0.
abbrev pub FirstFailure : (Trace → Type 0) → Trace → ℕ → Type 0
FirstFailure P ρ zero = P ρ
FirstFailure P ρ (suc k) = FailsAt P ρ (suc k)

-- The longest coherent beginning of a trace (SPEC 6.3).
pub record Longest (ρ π : Trace) : Type 0 where
  pub beginning : Begins π ρ
  pub coherent : Coherent π
  pub longest : (κ : Trace) → Begins κ ρ → Coherent κ → size κ ≤ size π

-- The letters of a run, 0 for none: the first at which coherence fails, and the first at which the longest coherent beginning becomes
-- infeasible. So no letter is named infeasible at or after the incoherent one (SPEC 6.3).
pub record Judgement (ρ : Trace) (incoherent infeasible : ℕ) : Type 0 where
  pub coherence : FirstFailure Coherent ρ incoherent
  pub part : Trace
  pub longest : Longest ρ part
  pub feasibility : FirstFailure (λ π. Feasible (state π)) part infeasible
