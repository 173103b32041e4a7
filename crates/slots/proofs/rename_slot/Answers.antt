use mathlib.Core.Path.{refl}
use borrow.Author.Rules.{rules}
use Rattle.window.specs.Layout.{registers}
use Rattle.slots.proofs.Theory.Loops.{renamed_more, renamed_all}
use Rattle.slots.proofs.rename_slot.Goals as goal

pub loop-s-preserved : goal.loop-s-preserved
loop-s-preserved c = renamed_more registers _ _ _ (search rules) _ _ _ _ _ refl refl c.loop-s.invariant c.loop-s-test.true (search rules)

pub returns : goal.returns
returns c = renamed_all registers _ _ _ (search rules) _ _ c.loop-s.invariant c.loop-s-test.false
