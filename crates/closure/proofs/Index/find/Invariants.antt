use Rattle.std.proofs.Common.{◌<◌}
use Rattle.closure.specs.Structs.{signatures}
use Rattle.closure.proofs.Theory.Index.{Finding}
use Rattle.closure.proofs.Index.find.Given as goal

abbrev pub invariant-loop-i : goal.invariant-loop-i
invariant-loop-i l = (l.i < l.n) × Finding (signatures l.terms) l.terms.registers l.self.link l.start l.c l.i

abbrev pub decreases-loop-i : goal.decreases-loop-i
decreases-loop-i l = l.i
