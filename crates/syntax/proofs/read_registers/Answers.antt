use Rattle.std.proofs.Common.{refl, arith}
use Rattle.syntax.proofs.Theory.Lists as law
use Rattle.syntax.proofs.read_registers.Goals as goal

pub loop-names-init : goal.loop-names-init
loop-names-init c = rw (c.none-names.ensures.items, c.none-names.ensures.count) (record { left = refl })

pub returns-then-not-is_name : goal.returns-then-not-is_name
returns-then-not-is_name c = law.registers_last c.loop-names.invariant c.next-t.ensures c.is_name.ensures c.if-not-is_name.true c.registers_end.ensures

pub returns-then-is_register_taken : goal.returns-then-is_register_taken
returns-then-is_register_taken c =
    let name = law.register_named c.loop-names.names.padded c.loop-names.invariant
    c.next-t.ensures c.is_name.ensures c.if-not-is_name.false c.is_register_taken.ensures in
    law.registers_taken name c.if-is_register_taken.true c.at.ensures

pub push-requires : goal.push-requires
push-requires c =
    let name = law.register_named c.loop-names.names.padded c.loop-names.invariant
    c.next-t.ensures c.is_name.ensures c.if-not-is_name.false c.is_register_taken.ensures in
    (omega arith, (law.registers_turn name c.if-is_register_taken.false).0)

pub loop-names-smaller : goal.loop-names-smaller
loop-names-smaller c =
    let name = law.register_named c.loop-names.names.padded c.loop-names.invariant
    c.next-t.ensures c.is_name.ensures c.if-not-is_name.false c.is_register_taken.ensures in
    let (l, k) = law.registers_turn name c.if-is_register_taken.false in
    let more = c.push.ensures.count in
    omega arith

pub loop-names-preserved : goal.loop-names-preserved
loop-names-preserved c =
    let name = law.register_named c.loop-names.names.padded c.loop-names.invariant
    c.next-t.ensures c.is_name.ensures c.if-not-is_name.false c.is_register_taken.ensures in
    rw (c.push.ensures.items, c.push.ensures.count) (law.registers_turn name c.if-is_register_taken.false).1
