use Rattle.std.proofs.Common.{◌∙◌}
use Rattle.records.proofs.Turns.{pair_starts}
use Rattle.records.proofs.same_pair.Goals as goal

pub returns : goal.returns
returns c = c.starts_with.ensures.value ∙ pair_starts c.args.pair.now c.args.part.now
