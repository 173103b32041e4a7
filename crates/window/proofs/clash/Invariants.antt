use Rattle.std.proofs.Common.{◌≡◌}
use Rattle.window.specs.Layout.{registers, functions}
use Rattle.window.specs.Performing.{clash_of}
use Rattle.window.proofs.clash.Given as goal

abbrev pub invariant-loop-r : goal.invariant-loop-r
invariant-loop-r l = l.bad ≡ clash_of registers functions l.class l.unequal l.r
