-- A window value is the window of a state, in the first edition's layout.
use Rattle.semantics.specs.Terms.{State}
use Rattle.window.specs.Layout.{registers, functions}
use Rattle.window.specs.Stepping as stepping
use Rattle.window.specs.declared.Window.{Window}

-- w is the window of the state (SPEC 5.2)
abbrev pub IsWindow : State → Window → Type 0
IsWindow = stepping.IsWindowInLayout registers functions
