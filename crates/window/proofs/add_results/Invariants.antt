use Rattle.std.proofs.Common.{◌≡◌}
use Rattle.window.specs.Layout.{registers}
use Rattle.window.specs.Adding.{results_added}
use Rattle.window.proofs.Theory.Bits.{until}
use Rattle.window.proofs.add_results.Given as goal

abbrev pub invariant-loop-a : goal.invariant-loop-a
invariant-loop-a l = l.t ≡ results_added registers (until l.first l.a) l.f l.second l.what l.fn.t
