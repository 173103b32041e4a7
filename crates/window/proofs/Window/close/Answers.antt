use Rattle.std.proofs.Common.{ap, sym, ◌∙◌, ◌+◌, ◌-◌, arith}
use Rattle.window.specs.Layout.{registers, functions, register_pairs}
use Rattle.window.specs.Performing.{closed_of}
use Rattle.window.proofs.Theory.Performing.{closed_more, closed_one, closed_none, closed_end}
use Rattle.window.proofs.Window.close.Goals as goal

pub returns-then-one-ge-REGISTERS : goal.returns-then-one-ge-REGISTERS
returns-then-one-ge-REGISTERS c = sym (closed_none registers functions (register_pairs + 1 - c.loop-turn._turn) _ _ _ _ c.loop-turn.self c.find-entry.ensures
    c.name-one.ensures c.rest.ensures c.name-two.ensures (omega arith) c.if-one-ge-REGISTERS.true)
    ∙ c.loop-turn.invariant

pub returns-then-two-ge-REGISTERS : goal.returns-then-two-ge-REGISTERS
returns-then-two-ge-REGISTERS c = sym (closed_one registers functions (register_pairs + 1 - c.loop-turn._turn) _ _ _ _ c.loop-turn.self c.find-entry.ensures
    c.name-one.ensures c.rest.ensures c.name-two.ensures (omega arith) c.if-one-ge-REGISTERS.false c.if-two-ge-REGISTERS.true)
    ∙ c.loop-turn.invariant

pub loop-turn-preserved : goal.loop-turn-preserved
loop-turn-preserved c = ap (λ n. closed_of registers functions n c.merge.new.self) (omega arith)
    ∙ sym (closed_more registers functions (register_pairs + 1 - c.loop-turn._turn) _ _ _ _ c.loop-turn.self c.find-entry.ensures
    c.name-one.ensures c.rest.ensures c.name-two.ensures (omega arith) _ c.if-one-ge-REGISTERS.false c.if-two-ge-REGISTERS.false c.merge.ensures)
    ∙ c.loop-turn.invariant

pub returns : goal.returns
returns c = sym (closed_end registers functions (register_pairs + 1 - c.loop-turn._turn) c.loop-turn.self (omega arith)) ∙ c.loop-turn.invariant
