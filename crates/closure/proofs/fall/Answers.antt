use Rattle.base.proofs.Theory.Choice.{decide}
use Rattle.closure.specs.Arrays.{fall_of}
use Rattle.closure.proofs.fall.Goals as goal

pub returns-then-name-from : goal.returns-then-name-from
unfolding fall_of
returns-then-name-from c = search decide

pub returns-else-name-from : goal.returns-else-name-from
unfolding fall_of
returns-else-name-from c = search decide
