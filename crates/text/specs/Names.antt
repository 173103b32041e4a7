-- Names held as numbers, as they are spelled, and printed as bytes again (SPEC 12.2).
use Rattle.std.specs.Prelude.{ℕ, ◌/◌, ◌%◌, List, [], ◌∷◌, eqb}
use Rattle.base.specs.Choice.{pick}
use Rattle.base.specs.Recursion.{fixed}
use Rattle.base.specs.Bytes.{byte_values}

abbrev pub name_step : (ℕ → List ℕ) → ℕ → List ℕ
name_step f w = pick (eqb w 0) (λ _. []) λ _. w % byte_values ∷ f (w / byte_values)

-- The bytes of a name.
unfoldable pub name_text : ℕ → List ℕ
name_text = fixed (λ w. w) (λ _. []) name_step
