use Rattle.closure.specs.Arrays.{Parts}
use Rattle.closure.proofs.Tests.clash.Given as goal

abbrev pub invariant-loop-i : goal.invariant-loop-i
invariant-loop-i l = Parts l.terms.representative l.self.left l.self.right l.i
