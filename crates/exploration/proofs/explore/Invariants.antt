use Rattle.std.proofs.Common.{◌-◌, ◌*◌}
use Rattle.exploration.proofs.Theory.UnderWay.{UnderWay}
use Rattle.exploration.proofs.explore.Given as goal

abbrev pub invariant-loop-number : goal.invariant-loop-number
invariant-loop-number l = UnderWay l.points l.end l.room l.fn.table l.table l.index.head l.index.link l.w l.count l.number

abbrev pub decreases-loop-number : goal.decreases-loop-number
decreases-loop-number l = 2 * l.room - l.number
