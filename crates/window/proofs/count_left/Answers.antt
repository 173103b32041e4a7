use Rattle.std.proofs.Common.{sym, ◌∙◌}
use borrow.Author.Tests.{eq-eqb, ne_eqb}
use Rattle.window.specs.Counting.{one_fewer, count_left}
use Rattle.window.proofs.count_left.Goals as goal

pub returns-then-size-eq1 : goal.returns-then-size-eq1
unfolding one_fewer count_left
returns-then-size-eq1 c = rw (eq-eqb _ _ (sym c.size.ensures ∙ c.if-size-eq1.true)) c.saturating_sub.ensures

pub returns : goal.returns
unfolding count_left
returns c = rw (ne_eqb _ _ (λ e. c.if-size-eq1.false (c.size.ensures ∙ e)))
