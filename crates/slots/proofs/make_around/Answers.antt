use mathlib.Core.Path.{sym, subst}
use Rattle.window.specs.Layout.{registers, functions}
use Rattle.window.proofs.Theory.Table.{written_all}
use Rattle.slots.specs.Around.{Around, around_of}
use Rattle.slots.proofs.Theory.Around.{around_made}
use Rattle.slots.proofs.make_around.Goals as goal

pub returns-clause-value : goal.returns-clause-value
unfolding around_of
returns-clause-value c = written_all _ _ _ _ _ c.loop-i.invariant c.loop-i-test.false

pub returns-clause-around : goal.returns-clause-around
unfolding around_of
returns-clause-around c =
    subst (Around registers functions _) (sym (written_all _ _ _ _ _ c.loop-i.invariant c.loop-i-test.false)) (around_made registers functions _)
