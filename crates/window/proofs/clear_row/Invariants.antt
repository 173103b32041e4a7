use Rattle.window.specs.Layout.{registers}
use Rattle.window.specs.Lines.{rows, cleared_at}
use Rattle.window.proofs.Theory.Lines.{Gone}
use Rattle.window.proofs.clear_row.Given as goal

abbrev pub invariant-loop-j : goal.invariant-loop-j
invariant-loop-j l = Gone (rows registers) (cleared_at (rows registers) l.x l.fn.t) l.x l.fn.t l.j l.t
