use Rattle.search.proofs.Theory.Writing.{Writing}
use Rattle.search.proofs.pack.Given as goal

abbrev pub invariant-loop-j : goal.invariant-loop-j
invariant-loop-j l = Writing l.header l.points l.table l.d l.packed l.j

abbrev pub decreases-loop-j : goal.decreases-loop-j
decreases-loop-j l = l.j
