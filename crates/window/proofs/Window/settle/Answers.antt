use Rattle.window.specs.Performing.{settled_of}
use Rattle.window.proofs.Window.settle.Goals as goal

pub returns-then-self-bad : goal.returns-then-self-bad
unfolding settled_of
returns-then-self-bad c = rw c.if-self-bad.true

pub returns-else-self-bad : goal.returns-else-self-bad
unfolding settled_of
returns-else-self-bad c = rw c.if-self-bad.false
