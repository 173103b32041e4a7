use Rattle.table.specs.Table.{is_at}
use Rattle.base.proofs.Theory.Lent.{tail_lent}
use Rattle.table.proofs.is_at.Goals as goal

pub returns : goal.returns
unfolding is_at
returns c = search (c.same_pair.ensures, tail_lent)
