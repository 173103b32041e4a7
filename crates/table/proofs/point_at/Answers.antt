use Rattle.table.specs.Table.{point_at}
use Rattle.base.proofs.Theory.Lent.{tail_lent}
use Rattle.table.proofs.point_at.Goals as goal

pub returns : goal.returns
unfolding point_at
returns c = search (c.point_in.ensures, tail_lent)
