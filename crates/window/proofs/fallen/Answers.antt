use mathlib.Core.Path.{sym, ◌∙◌}
use borrow.Author.Tests.{eq-eqb, ne_eqb}
use Rattle.window.specs.Performing.{fallen_of}
use Rattle.window.proofs.fallen.Goals as goal

pub returns-then-size-eq1 : goal.returns-then-size-eq1
unfolding fallen_of
returns-then-size-eq1 c = rw (eq-eqb _ _ (sym c.size.ensures ∙ c.if-size-eq1.true)) c.lost.ensures

pub returns : goal.returns
unfolding fallen_of
returns c = rw (ne_eqb _ _ (λ k. c.if-size-eq1.false (c.size.ensures ∙ k)))
