-- The first incoherent and the first infeasible letter of a trace, computed (SPEC 3.7, 4.6).
use Rattle.base.specs.Choice.{pick}
use Rattle.semantics.specs.Terms.{Trace, begin, ◌▸◌, state}
use Rattle.semantics.specs.Judge.{coherent, first_failing, feasible}
use Rattle.std.specs.Prelude.{ℕ}

-- The longest coherent beginning of a trace.
unfoldable pub coherent_part : Trace → Trace
coherent_part (begin h) = begin h
coherent_part (ρ ▸ a) = pick (coherent (ρ ▸ a)) (λ _. ρ ▸ a) λ _. coherent_part ρ

-- The first incoherent letter of a run, 0 for none (SPEC 6.3).
unfoldable pub incoherent_letter : Trace → ℕ
incoherent_letter ρ = first_failing coherent ρ

-- The first infeasible letter of a run, 0 for none (SPEC 6.3).
unfoldable pub infeasible_letter : Trace → ℕ
infeasible_letter ρ = first_failing (λ π. feasible (state π)) (coherent_part ρ)

-- The first infeasible letter of a trace, coherent or not, 0 for none: the whole-trace engine's (SPEC 7.1).
unfoldable pub first_infeasible : Trace → ℕ
first_infeasible ρ = first_failing (λ π. feasible (state π)) ρ
