use Rattle.window.specs.Performing.{early_of}
use Rattle.window.proofs.Window.is_early.Goals as goal

pub returns-then-self-x : goal.returns-then-self-x
unfolding early_of
returns-then-self-x c = rw c.if-self-x.true c.holds.ensures

pub returns : goal.returns
unfolding early_of
returns c = rw c.if-self-x.false
