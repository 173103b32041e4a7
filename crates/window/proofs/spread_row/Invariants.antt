use Rattle.std.proofs.Common.{◌≡◌}
use Rattle.window.specs.Layout.{registers}
use Rattle.window.specs.Lines.{rows, united}
use Rattle.window.proofs.Theory.Bits.{until}
use Rattle.window.proofs.spread_row.Given as goal

abbrev pub invariant-loop-r : goal.invariant-loop-r
invariant-loop-r l = l.t ≡ united (rows registers) (until l.to l.r) l.a l.a l.fn.t
