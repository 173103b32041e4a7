-- The names of classes.
use Rattle.std.specs.Prelude.{ℕ, ◌<◌}
use Rattle.semantics.specs.Terms.{State}
use Rattle.semantics.specs.Window.{Same}

-- "A class is named by its lowest-numbered register": k names the class of register r (SPEC 5.1).
pub record NamedBy (σ : State) (r k : ℕ) : Type 0 where
  pub member : Same σ r k
  pub lowest : (s : ℕ) → s < k → ¬ Same σ r s
