use Rattle.closure.proofs.Theory.Uses.{NoUse}
use Rattle.closure.proofs.Terms.uses.Given as goal

abbrev pub invariant-loop-i : goal.invariant-loop-i
invariant-loop-i l = NoUse l.self.representative l.self.first l.self.second l.self.count l.d l.i
