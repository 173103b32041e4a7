use mathlib.Core.Path.{◌≡◌}
use Rattle.window.specs.Layout.{registers}
use Rattle.slots.specs.Performing.{clean_of}
use Rattle.slots.proofs.clean.Given as goal

abbrev pub invariant-loop-k : goal.invariant-loop-k
invariant-loop-k l = l.fine ≡ clean_of registers l.used l.step l.t l.k
