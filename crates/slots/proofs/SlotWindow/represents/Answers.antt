use mathlib.Core.Path.{sym, ◌∙◌}
use Rattle.window.specs.Layout.{registers, functions}
use Rattle.slots.proofs.Theory.Regular.{represents_is}
use Rattle.slots.proofs.Theory.Pulls.{compared}
use Rattle.slots.proofs.SlotWindow.represents.Goals as goal

pub returns-then-regular-clause-stands : goal.returns-then-regular-clause-stands
returns-then-regular-clause-stands c t =
    let a = c.args in
    let l = c.regular.ensures.laid in
    let e = compared registers functions a.window.now _ a.self.now a.count _ c.if-count-gt-REGISTERS.false (sym c.regular.ensures.value ∙ c.if-regular.true)
    c.window.ensures c.same_window.ensures.value in
    represents_is registers functions a.count a.window.now a.self.now l.low.long l.regs_long l.tables l.mark_long (sym e ∙ t)
    (c.same_window.ensures.same t ∙ c.window.ensures)
