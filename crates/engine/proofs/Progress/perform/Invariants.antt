use Rattle.std.proofs.Common.{◌≡◌}
use Rattle.engine.specs.Run.{RunningIn}
use Rattle.engine.proofs.Progress.perform.Given as goal

abbrev pub invariant-loop-k : goal.invariant-loop-k
invariant-loop-k l = RunningIn l.trace l.header l.letters l.terms l.self l.k × (l.terms.registers ≡ l.header.registers)
