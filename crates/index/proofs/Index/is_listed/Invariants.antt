use Rattle.index.proofs.Theory.IndexLaws.{Looking}
use Rattle.index.proofs.Index.is_listed.Given as goal

abbrev pub invariant-loop-k : goal.invariant-loop-k
invariant-loop-k l = Looking l.table l.self.link l.count l.pair l.k

abbrev pub decreases-loop-k : goal.decreases-loop-k
decreases-loop-k l = l.k
