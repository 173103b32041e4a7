use Rattle.records.specs.Records.{point_in}
use Rattle.records.proofs.point_in.Goals as goal

pub returns : goal.returns
unfolding point_in
returns c = c.number_in.ensures
