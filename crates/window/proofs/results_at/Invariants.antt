use Rattle.std.proofs.Common.{◌≡◌}
use Rattle.window.specs.Layout.{register_pairs}
use Rattle.window.specs.Marks.{union_of}
use Rattle.window.proofs.results_at.Given as goal

abbrev pub invariant-loop-f : goal.invariant-loop-f
invariant-loop-f l = l.m ≡ union_of l.res l.i register_pairs l.f
