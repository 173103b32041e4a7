-- Well-formed traces, and what holds of the state of each.
use Rattle.std.specs.Prelude.{ℕ, ◌<◌}
use Rattle.semantics.specs.Terms.{◌∈◌, Term, con, app, State, constants, Trace, begin, ◌▸◌, state}
use Rattle.letters.specs.Letters.{Fits}

-- Every letter fits the header (SPEC 2.3).
abbrev pub WellFormed : Trace → Type 0
WellFormed (begin h) = Unit {0}
WellFormed (ρ ▸ a) = WellFormed ρ × Fits (state ρ).header a

-- Register values, arguments of computed applications and sides of tests are computed, and of the constants only those of registers.
pub record Valid (σ : State) : Type 0 where
  pub values : (r : ℕ) → r < σ.header.registers → σ.value r ∈ σ.terms
  pub arguments : (f : ℕ) (a b : Term) → app f a b ∈ σ.terms → (a ∈ σ.terms) × (b ∈ σ.terms)
  pub equal_sides : (s t : Term) → (s, t) ∈ σ.equals → (s ∈ σ.terms) × (t ∈ σ.terms)
  pub unequal_sides : (s t : Term) → (s, t) ∈ σ.unequals → (s ∈ σ.terms) × (t ∈ σ.terms)
  pub constants : (r : ℕ) → con r ∈ σ.terms → r < σ.header.registers
