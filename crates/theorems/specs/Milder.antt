-- The equal tests of which SPEC 4.3 asks nothing, though Definition 5 does (SPEC 4.4; document 02, request 3), and Definition 5 with both changes.
use Rattle.std.specs.Prelude.{◌⊎◌}
use Rattle.letters.specs.declared.Letter.{Letter}
use Rattle.letters.specs.declared.Letter.TheVariants.{Copy, Apply, Equal, Unequal}
use Rattle.semantics.specs.Terms.{State, Trace, begin, ◌▸◌, state}
use Rattle.semantics.specs.Paper.{Congruent, CoherentLetterModulo}
use Rattle.theorems.specs.Stricter.{ArgumentsHeld}

-- "An equal test whose two sides are equal in the closure before it": the paper's congruence of the equal tests before it joins them (SPEC 4.3, 4.4).
abbrev pub SidesJoined : State → Letter → Type 0
SidesJoined σ (Copy x y) = ⊥
SidesJoined σ (Apply x f y z) = ⊥
SidesJoined σ (Equal x y) = Congruent σ.equals (σ.value x) (σ.value y)
SidesJoined σ (Unequal x y) = ⊥

-- Definition 5 with the milder and the stricter condition: each letter is such a test, or is coherent by Definition 5 and has its arguments held.
abbrev pub Definition5Changed : Trace → Type 0
Definition5Changed (begin h) = Unit {0}
Definition5Changed (ρ ▸ a) = Definition5Changed ρ × (SidesJoined (state ρ) a ⊎ (CoherentLetterModulo (state ρ) a × ArgumentsHeld (state ρ) a))
