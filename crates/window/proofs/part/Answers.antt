use mathlib.Core.Path.{sym, ◌∙◌}
use Rattle.window.specs.Adding.{part_of}
use Rattle.window.proofs.part.Goals as goal

pub returns-then-holds : goal.returns-then-holds
unfolding part_of
returns-then-holds c = rw (sym c.holds.ensures ∙ c.if-holds.true)

pub returns-else-holds : goal.returns-else-holds
unfolding part_of
returns-else-holds c = rw (sym c.holds.ensures ∙ c.if-holds.false)
