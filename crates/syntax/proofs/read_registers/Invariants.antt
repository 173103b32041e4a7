use Rattle.std.proofs.Common.{◌-◌}
use Rattle.letters.specs.Editions.{most_registers}
use Rattle.syntax.proofs.Theory.Lists.{RegistersSoFar}
use Rattle.syntax.proofs.read_registers.Given as goal

abbrev pub invariant-loop-names : goal.invariant-loop-names
invariant-loop-names l = RegistersSoFar l.text l.from l.names.items l.names.count l.at

abbrev pub decreases-loop-names : goal.decreases-loop-names
decreases-loop-names l = most_registers - l.names.count
