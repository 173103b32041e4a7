use Rattle.std.proofs.Common.{◌≡◌}
use Rattle.window.specs.Layout.{registers}
use Rattle.window.specs.Lines.{columns, united}
use Rattle.window.proofs.Theory.Bits.{until}
use Rattle.window.proofs.spread_column.Given as goal

abbrev pub invariant-loop-r : goal.invariant-loop-r
invariant-loop-r l = l.t ≡ united (columns registers) (until l.to l.r) l.a l.a l.fn.t
