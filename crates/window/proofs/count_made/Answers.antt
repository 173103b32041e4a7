use mathlib.Core.Path.{sym, ◌∙◌}
use borrow.Author.Tests.{eq-eqb, ne_eqb}
use Rattle.window.specs.Counting.{count_made}
use Rattle.window.proofs.count_made.Goals as goal

pub returns-then-size-eq1 : goal.returns-then-size-eq1
unfolding count_made
returns-then-size-eq1 c = rw (eq-eqb _ _ (sym c.size.ensures ∙ c.if-size-eq1.true))

pub returns : goal.returns
unfolding count_made
returns c = rw (ne_eqb _ _ (λ e. c.if-size-eq1.false (c.size.ensures ∙ e))) c.one_more.ensures
