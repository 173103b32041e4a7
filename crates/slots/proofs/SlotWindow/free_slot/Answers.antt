use mathlib.Core.Path.{◌≡◌, sym, ap, ◌∙◌}
use native.Mathlib.Omega.{arith}
use Rattle.window.specs.Layout.{registers}
use Rattle.slots.specs.Slots.{Slots}
use Rattle.slots.specs.Performing.{free_from}
use Rattle.slots.proofs.Theory.Loops.{free_here, free_more, free_none}
use Rattle.slots.proofs.SlotWindow.free_slot.Goals as goal

pub returns-then-self-s-eq0 : goal.returns-then-self-s-eq0
returns-then-self-s-eq0 c =
    sym (free_here registers _ _ c.loop-s-test.true c.if-self-s-eq0.true) ∙ c.loop-s.invariant
    ∙ ap (λ (v : Slots). free_from v.regs 0 registers) c.self.view_is

pub loop-s-preserved : goal.loop-s-preserved
loop-s-preserved c = sym (free_more registers _ _ c.loop-s-test.true c.if-self-s-eq0.false) ∙ c.loop-s.invariant

pub returns : goal.returns
returns c =
    let end : registers ≡ c.loop-s.s = omega arith in
    end ∙ sym (free_none registers _ _ c.loop-s-test.false) ∙ c.loop-s.invariant ∙ ap (λ (v : Slots). free_from v.regs 0 registers) c.self.view_is
