use Rattle.std.proofs.Common.{◌≡◌, ◌+◌, ◌-◌, ◌*◌}
use Rattle.closure.specs.Arrays.{sum_below}
use Rattle.closure.specs.Structs.{UnderwayIn, with_classes}
use Rattle.closure.proofs.Terms.propagate.Given as goal

abbrev pub invariant-loop-i : goal.invariant-loop-i
invariant-loop-i l = UnderwayIn l.fn.self.representative l.self l.index l.i × (l.self ≡ with_classes l.fn.self l.self.representative)

abbrev pub decreases-loop-i : goal.decreases-loop-i
decreases-loop-i l = 2000 * sum_below l.self.count l.self.representative + (l.self.count - l.i)
