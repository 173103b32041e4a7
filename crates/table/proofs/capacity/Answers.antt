use Rattle.std.proofs.Common.{◌∙◌}
use Rattle.std.proofs.Math.Nat.{min_comm}
use Rattle.letters.specs.Capacity.{capacity_of, most_pairs}
use Rattle.table.proofs.capacity.Goals as goal

pub returns : goal.returns
unfolding capacity_of
returns c = c.min.ensures ∙ min_comm _ most_pairs
