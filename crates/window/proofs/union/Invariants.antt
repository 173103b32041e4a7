use Rattle.std.proofs.Common.{◌≡◌}
use Rattle.window.specs.Marks.{union_of}
use Rattle.window.proofs.union.Given as goal

abbrev pub invariant-loop-j : goal.invariant-loop-j
invariant-loop-j l = l.m ≡ union_of l.t l.start l.step l.j
