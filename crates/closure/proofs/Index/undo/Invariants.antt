use Rattle.std.proofs.Common.{◌≡◌}
use Rattle.closure.proofs.Theory.Index.{Undoing}
use Rattle.closure.proofs.Index.undo.Given as goal

abbrev pub invariant-loop-k : goal.invariant-loop-k
invariant-loop-k l = (l.self.link ≡ l.fn.self.link) × Undoing l.fn.self.head l.fn.self.link l.bound l.self.head l.k
