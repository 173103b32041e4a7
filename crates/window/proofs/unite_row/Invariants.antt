use Rattle.std.proofs.Common.{eqb}
use Rattle.window.specs.Layout.{registers}
use Rattle.window.specs.Lines.{rows, united_at}
use Rattle.window.proofs.Theory.Lines.{Gone}
use Rattle.window.proofs.unite_row.Given as goal

abbrev pub invariant-loop-j : goal.invariant-loop-j
invariant-loop-j l = Gone (rows registers) (united_at (rows registers) (λ s. eqb s l.r) l.a l.b l.fn.t) l.r l.fn.t l.j l.t
