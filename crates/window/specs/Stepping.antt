-- A window value is the window of a state, in a layout.
use Rattle.std.specs.Prelude.{◌≡◌, ℕ}
use Rattle.semantics.specs.Terms.{State}
use Rattle.semantics.specs.View.{Tracks}
use Rattle.window.specs.Viewing.{view, Inside, Shaped}
use Rattle.window.specs.Counting.{counted_classes}
use Rattle.window.specs.declared.Window.{Window}

module _ (ρ φ : ℕ) where
  -- w is the window of the state: all six parts are, it says nothing of registers beyond the header's count (SPEC 5.2, 5.5), and its number of classes
  -- is theirs (SPEC 5.8), counted at their names: exactly if it is the state's (`counted_is` of proofs/Theory/Exact.antt)
  pub record IsWindowInLayout (σ : State) (w : Window) : Type 0 where
    pub tracks : Tracks σ (view ρ φ w)
    pub inside : Inside ρ σ.header.registers (view ρ φ w)
    pub shaped : Shaped ρ φ w
    pub counted : w.classes ≡ counted_classes ρ w.class
