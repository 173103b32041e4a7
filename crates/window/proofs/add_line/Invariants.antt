use Rattle.window.specs.Layout.{registers}
use Rattle.window.proofs.Theory.Adding.{Adding}
use Rattle.window.proofs.add_line.Given as goal

abbrev pub invariant-loop-r : goal.invariant-loop-r
invariant-loop-r l = Adding registers l.j l.mask l.what l.fn.t l.r l.t
