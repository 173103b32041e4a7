use Rattle.std.proofs.Common.{sym, ◌∙◌}
use Rattle.window.specs.Performing.{memoizing_of}
use Rattle.window.proofs.Window.is_memoizing.Goals as goal

pub returns-then-holds : goal.returns-then-holds
unfolding memoizing_of
returns-then-holds c = rw (sym c.holds.ensures ∙ c.if-holds.true) c.inhabited.ensures

pub returns : goal.returns
unfolding memoizing_of
returns c = rw (sym c.holds.ensures ∙ c.if-holds.false)
