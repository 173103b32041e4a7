use Rattle.std.proofs.Common.{◌≡◌}
use Rattle.base.specs.Each.{each_up_to}
use Rattle.blocks.specs.Held.{within}
use Rattle.blocks.proofs.points.Points.redirect.Given as goal

abbrev pub invariant-loop-i : goal.invariant-loop-i
invariant-loop-i l = record {
  entries : l.self.entries ≡ each_up_to (within l.from l.to l.f) l.i l.initial.self.entries;
  count : l.self.count ≡ l.initial.self.count;
}
