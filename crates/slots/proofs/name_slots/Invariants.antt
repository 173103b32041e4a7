use Rattle.window.specs.Layout.{registers}
use Rattle.slots.proofs.Theory.Pulls.{Lowered}
use Rattle.slots.proofs.name_slots.Given as goal

abbrev pub invariant-loop-r : goal.invariant-loop-r
invariant-loop-r l = Lowered registers l.r l.s-items
