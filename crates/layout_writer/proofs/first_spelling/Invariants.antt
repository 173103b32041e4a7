use Rattle.std.proofs.Common.{◌-◌, length}
use Rattle.layout_writer.proofs.Theory.Finding.{LookedThrough}
use Rattle.layout_writer.proofs.first_spelling.Given as goal

abbrev pub invariant-loop-at : goal.invariant-loop-at
invariant-loop-at l = LookedThrough l.text l.from l.key l.at

abbrev pub decreases-loop-at : goal.decreases-loop-at
decreases-loop-at l = length l.text - l.at
