-- What document 01's own rule asks of every equal test beyond the paper's Definition 5 (SPEC 4.4). Of sides that are equal already SPEC 4.3 asks nothing
-- any more: Milder.antt.
use Rattle.std.specs.Prelude.{◌⊎◌, ℕ}
use Rattle.letters.specs.declared.Letter.{Letter}
use Rattle.letters.specs.declared.Letter.TheVariants.{Copy, Apply, Equal, Unequal}
use Rattle.semantics.specs.Terms.{◌∈◌, Term, app, State, Trace, begin, ◌▸◌, state}
use Rattle.semantics.specs.Closure.{Held}
use Rattle.semantics.specs.Coherence.{Above}

-- At an equal test each computed application above a side has its arguments held: "its result and all its arguments equal to present values
-- of registers". Definition 5 asks it of the result alone (SPEC 4.3, 4.4).
abbrev pub ArgumentsHeld : State → Letter → Type 0
ArgumentsHeld σ (Copy x y) = Unit {0}
ArgumentsHeld σ (Apply x f y z) = Unit {0}
ArgumentsHeld σ (Equal x y) =
    (f : ℕ) (a b : Term) → app f a b ∈ σ.terms
    → Above σ.terms σ.equals (σ.value x) a b ⊎ Above σ.terms σ.equals (σ.value y) a b → Held σ a × Held σ b
ArgumentsHeld σ (Unequal x y) = Unit {0}

-- So at every letter (SPEC 4.6).
abbrev pub Stricter : Trace → Type 0
Stricter (begin h) = Unit {0}
Stricter (ρ ▸ a) = Stricter ρ × ArgumentsHeld (state ρ) a
