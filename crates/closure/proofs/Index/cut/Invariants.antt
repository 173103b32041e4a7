use Rattle.closure.proofs.Theory.Index.{CuttingAll}
use Rattle.closure.proofs.Index.cut.Given as goal

abbrev pub invariant-loop-last : goal.invariant-loop-last
invariant-loop-last l = CuttingAll l.fn.self.head l.fn.self.link l.bound l.last-items l.last-index
