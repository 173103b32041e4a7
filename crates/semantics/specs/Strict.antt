-- Document 01's own rule on equal tests, as it was before request 3 (SPEC 4.4): it puts the condition to sides that are equal already, too.
-- Nothing that is claimed of the checker rests on it; theorems compare with it.
use Rattle.letters.specs.declared.Header.{Header}
use Rattle.letters.specs.declared.Letter.{Letter}
use Rattle.letters.specs.declared.Letter.TheVariants.{Copy, Apply, Equal, Unequal}
use Rattle.semantics.specs.Terms.{Trace, begin, ◌▸◌, State, state}
use Rattle.semantics.specs.Closure.{Equivalent}
use Rattle.semantics.specs.Coherence.{Early, Memoizing}

-- "At every equal test, each computed application above either side must have its result and all its arguments equal to present values of
-- registers." Other letters are judged as in `CoherentLetter`.
abbrev pub StrictLetter : State → Letter → Type 0
StrictLetter σ (Copy x y) = Unit {0}
StrictLetter σ (Apply x f y z) = Memoizing σ x f y z
StrictLetter σ (Equal x y) = Early σ x y
StrictLetter σ (Unequal x y) = Unit {0}

-- So at every letter (SPEC 4.6).
abbrev pub StrictlyCoherent : Trace → Type 0
StrictlyCoherent (begin h) = Unit {0}
StrictlyCoherent (ρ ▸ a) = StrictlyCoherent ρ × StrictLetter (state ρ) a

-- "An equal test whose two sides are equal in the closure before it" (document 02, request 3; SPEC 4.3).
abbrev pub RedundantTest : State → Letter → Type 0
RedundantTest σ (Copy x y) = ⊥
RedundantTest σ (Apply x f y z) = ⊥
RedundantTest σ (Equal x y) = Equivalent σ (σ.value x) (σ.value y)
RedundantTest σ (Unequal x y) = ⊥

-- The second trace is the first without its redundant tests.
pub data WithoutRedundant : Trace → Trace → Type 0 where
  without_letters : {h : Header} → WithoutRedundant (begin h) (begin h)
  left_out : {ρ π : Trace} {a : Letter} → WithoutRedundant ρ π → RedundantTest (state ρ) a → WithoutRedundant (ρ ▸ a) π
  left_in : {ρ π : Trace} {a : Letter} → WithoutRedundant ρ π → ¬ RedundantTest (state ρ) a → WithoutRedundant (ρ ▸ a) (π ▸ a)
