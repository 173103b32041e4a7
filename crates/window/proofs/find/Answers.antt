use Rattle.std.proofs.Common.{sym, ap, ◌∙◌}
use Rattle.window.specs.Layout.{registers, functions}
use Rattle.window.specs.Bits.{nonempty}
use Rattle.window.proofs.Theory.Performing.{find_here, find_more, find_none}
use Rattle.window.proofs.find.Goals as goal

pub returns-then-inhabited : goal.returns-then-inhabited
returns-then-inhabited c = sym (find_here registers functions _ _ _ c.loop-entry-test.true
    (sym (c.inhabited.ensures ∙ ap (nonempty registers) c.rest.ensures) ∙ c.if-inhabited.true)) ∙ c.loop-entry.invariant

pub loop-entry-preserved : goal.loop-entry-preserved
loop-entry-preserved c = sym (find_more registers functions _ _ _ c.loop-entry-test.true
    (sym (c.inhabited.ensures ∙ ap (nonempty registers) c.rest.ensures) ∙ c.if-inhabited.false)) ∙ c.loop-entry.invariant

pub returns : goal.returns
returns c = sym (find_none registers functions _ _ _ c.loop-entry-test.false) ∙ c.loop-entry.invariant
