use Rattle.records.specs.Records.{parent_in}
use Rattle.records.proofs.parent_in.Goals as goal

pub returns : goal.returns
unfolding parent_in
returns c = c.number_in.ensures
