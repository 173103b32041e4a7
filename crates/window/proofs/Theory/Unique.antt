-- A state has one window in the first edition's layout.
use mathlib.Core.Path.{◌≡◌}
use Rattle.semantics.specs.Terms.{State}
use Rattle.window.specs.Layout.{registers, functions}
use Rattle.window.specs.Step.{IsWindow}
use Rattle.window.proofs.Theory.Uniqueness as uniqueness
use Rattle.window.specs.declared.Window.{Window}

pub unique : (σ : State) (w w' : Window) → IsWindow σ w → IsWindow σ w' → w ≡ w'
unique = uniqueness.unique registers functions
