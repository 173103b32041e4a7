use Rattle.engine.proofs.Theory.Run.{Following}
use Rattle.engine.proofs.first_malformed.Given as goal

abbrev pub invariant-loop-i : goal.invariant-loop-i
invariant-loop-i l = Following l.trace l.header l.letters l.k l.i
