use borrow.Author.Tests.{lt-ltb, le-ltb}
use Rattle.window.specs.Performing.{own_of}
use Rattle.window.proofs.own.Goals as goal

pub returns-then-i-count : goal.returns-then-i-count
unfolding own_of
returns-then-i-count c = rw (lt-ltb _ _ c.if-i-count.true) c.single.ensures

pub returns-else-i-count : goal.returns-else-i-count
unfolding own_of
returns-else-i-count c = rw (le-ltb _ _ c.if-i-count.false)
