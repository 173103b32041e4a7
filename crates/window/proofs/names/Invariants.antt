use Rattle.std.proofs.Common.{◌≡◌}
use Rattle.window.specs.Layout.{registers}
use Rattle.window.specs.Naming.{naming_below}
use Rattle.window.proofs.names.Given as goal

abbrev pub invariant-loop-r : goal.invariant-loop-r
invariant-loop-r l = l.named ≡ naming_below registers l.class l.r
