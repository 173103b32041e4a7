use Rattle.table.specs.Table.{window_at}
use Rattle.base.proofs.Theory.Lent.{tail_lent}
use Rattle.table.proofs.window_at.Goals as goal

pub returns : goal.returns
unfolding window_at
returns c = search (c.window_in.ensures, tail_lent)
