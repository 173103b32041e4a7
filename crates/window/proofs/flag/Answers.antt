use mathlib.Core.Path.{sym, ◌∙◌}
use Rattle.window.specs.Marks.{flag_of}
use Rattle.window.proofs.flag.Goals as goal

pub returns-then-inhabited : goal.returns-then-inhabited
unfolding flag_of
returns-then-inhabited c = rw (sym c.inhabited.ensures ∙ c.if-inhabited.true) c.single.ensures

pub returns-else-inhabited : goal.returns-else-inhabited
unfolding flag_of
returns-else-inhabited c = rw (sym c.inhabited.ensures ∙ c.if-inhabited.false)
