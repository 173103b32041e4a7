use Rattle.table.specs.Table.{parent_at}
use Rattle.base.proofs.Theory.Lent.{tail_lent}
use Rattle.table.proofs.parent_at.Goals as goal

pub returns : goal.returns
unfolding parent_at
returns c = search (c.parent_in.ensures, tail_lent)
