use Rattle.window.specs.Layout.{registers}
use Rattle.window.specs.Lines.{columns, cleared_at}
use Rattle.window.proofs.Theory.Lines.{Gone}
use Rattle.window.proofs.clear_column.Given as goal

abbrev pub invariant-loop-j : goal.invariant-loop-j
invariant-loop-j l = Gone (columns registers) (cleared_at (columns registers) l.x l.fn.t) l.x l.fn.t l.j l.t
