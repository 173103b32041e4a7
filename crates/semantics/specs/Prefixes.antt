-- Beginnings of traces (SPEC 1.2).
use Rattle.letters.specs.declared.Letter.{Letter}
use Rattle.semantics.specs.Terms.{Trace, ◌▸◌}

-- ρ is a beginning of π, or all of it.
pub data Begins : Trace → Trace → Type 0 where
  whole : {ρ : Trace} → Begins ρ ρ
  before : {ρ π : Trace} {a : Letter} → Begins ρ π → Begins ρ (π ▸ a)

-- P goes over to beginnings.
abbrev pub PrefixClosed : (Trace → Type 0) → Type 0
PrefixClosed P = (ρ : Trace) (a : Letter) → P (ρ ▸ a) → P ρ
