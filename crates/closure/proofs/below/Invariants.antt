use Rattle.std.proofs.Common.{◌<◌}
use Rattle.closure.specs.Limits.{most_terms}
use Rattle.closure.proofs.Theory.Index.{Cutting}
use Rattle.closure.proofs.below.Given as goal

abbrev pub invariant-loop-i : goal.invariant-loop-i
invariant-loop-i l = (l.i < most_terms) × Cutting l.link l.start l.bound l.i

abbrev pub decreases-loop-i : goal.decreases-loop-i
decreases-loop-i l = l.i
