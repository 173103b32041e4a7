use Rattle.window.specs.Performing.{arguments_of}
use Rattle.window.proofs.arguments.Goals as goal

pub returns-then-y-x : goal.returns-then-y-x
unfolding arguments_of
returns-then-y-x c = rw c.if-y-x.true

pub returns : goal.returns
unfolding arguments_of
returns c = rw c.if-y-x.false
