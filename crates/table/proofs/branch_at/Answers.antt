use Rattle.table.specs.Table.{branch_at}
use Rattle.base.proofs.Theory.Lent.{tail_lent}
use Rattle.table.proofs.branch_at.Goals as goal

pub returns : goal.returns
unfolding branch_at
returns c = search (c.branch_in.ensures, tail_lent)
