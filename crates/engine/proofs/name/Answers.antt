use Rattle.base.proofs.Theory.Choice.{decide}
use Rattle.engine.specs.Engine.{name_of}
use Rattle.engine.proofs.name.Goals as goal

pub returns-then-found-count : goal.returns-then-found-count
unfolding name_of
returns-then-found-count c = search decide

pub returns-else-found-count : goal.returns-else-found-count
unfolding name_of
returns-else-found-count c = search decide
