use Rattle.std.proofs.Common.{◌^◌, ◌-◌}
use Rattle.window.specs.Layout.{registers}
use Rattle.window.proofs.Theory.Marks.{Rising}
use Rattle.window.proofs.raised.Given as goal

abbrev pub invariant-loop-t : goal.invariant-loop-t
invariant-loop-t l = Rising registers l.up l.seed l.s l.t

abbrev pub decreases-loop-t : goal.decreases-loop-t
decreases-loop-t l = 2 ^ registers - l.s
