use Rattle.base.proofs.Theory.Choice.{decide}
use Rattle.closure.specs.Index.{without_last}
use Rattle.closure.proofs.without_last.Goals as goal

pub returns-then-last-k : goal.returns-then-last-k
unfolding without_last
returns-then-last-k c = search decide

pub returns-else-last-k : goal.returns-else-last-k
unfolding without_last
returns-else-last-k c = search decide
