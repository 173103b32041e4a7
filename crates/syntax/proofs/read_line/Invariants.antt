use Rattle.std.proofs.Common.{◌-◌, take}
use Rattle.letters.specs.Editions.{most_functions}
use Rattle.grammar.specs.Reading.{line_from}
use Rattle.syntax.proofs.Theory.Lists.{FunctionsSoFar}
use Rattle.syntax.proofs.read_line.Given as goal

abbrev pub invariant-loop-entries : goal.invariant-loop-entries
invariant-loop-entries l =
    let k = l.fn.known in
    FunctionsSoFar l.text l.regs k.count (line_from l.text l.regs (take k.count k.names) (take k.count k.arities) l.from)
    l.entries.names.items l.entries.arities l.entries.names.count l.at

abbrev pub decreases-loop-entries : goal.decreases-loop-entries
decreases-loop-entries l = most_functions - l.entries.names.count
