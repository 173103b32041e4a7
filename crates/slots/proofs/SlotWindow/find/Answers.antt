use mathlib.Core.Path.{sym, ap, ◌∙◌}
use Rattle.window.specs.Layout.{registers, results}
use Rattle.slots.specs.Slots.{Slots}
use Rattle.slots.specs.Performing.{pulled_of}
use Rattle.slots.proofs.Theory.Loops.{find_here, find_more, find_none}
use Rattle.slots.proofs.SlotWindow.find.Goals as goal

pub returns-then-many : goal.returns-then-many
returns-then-many c =
    let w = c.args.self.now in
    let here = ap (λ (v : Slots). pulled_of v.regs c.entry-slots.result registers) c.self.view_is in
    find_here registers w.slot w.regs w.result results _ _ _ _ c.loop-k-test.true c.entry-slots.ensures c.many.ensures c.if-many.true
    (c.pulled.ensures ∙ here) ∙ c.loop-k.invariant

pub loop-k-preserved : goal.loop-k-preserved
loop-k-preserved c =
    sym (find_more registers _ _ _ results _ _ _ c.loop-k-test.true c.entry-slots.ensures c.many.ensures c.if-many.false) ∙ c.loop-k.invariant

pub returns : goal.returns
returns c = sym (find_none registers _ _ _ results _ c.loop-k-test.false) ∙ c.loop-k.invariant
