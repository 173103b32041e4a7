use Rattle.std.proofs.Common.{arith}
use Rattle.syntax.proofs.Theory.Lists as law
use Rattle.syntax.proofs.read_line.Goals as goal

pub loop-entries-init : goal.loop-entries-init
loop-entries-init c =
    rw (c.of-entries.ensures.items, c.of-entries.ensures.arities, c.of-entries.ensures.count) (law.line_begins _ _ _ _ _ _ c.requires.1.0)

pub returns-then-not-is_name : goal.returns-then-not-is_name
returns-then-not-is_name c = law.functions_last c.loop-entries.invariant c.next-t.ensures c.is_name.ensures c.if-not-is_name.true c.functions_end.ensures

pub returns-then-is_function_taken : goal.returns-then-is_function_taken
returns-then-is_function_taken c =
    let name = law.function_named c.loop-entries.entries.names.padded c.loop-entries.entries.padded c.loop-entries.invariant
    c.next-t.ensures c.is_name.ensures c.if-not-is_name.false c.is_function_taken.ensures in
    law.functions_taken name c.if-is_function_taken.true c.at.ensures

pub returns-in_err-n : goal.returns-in_err-n
returns-in_err-n c =
    let name = law.function_named c.loop-entries.entries.names.padded c.loop-entries.entries.padded c.loop-entries.invariant
    c.next-t.ensures c.is_name.ensures c.if-not-is_name.false c.is_function_taken.ensures in
    let new : law.NewFunction name c.arity.result = record { not_taken = c.if-is_function_taken.false; arity = c.arity.ensures } in
    law.functions_refused new c.in_err-n.was c.from_residual.ensures

pub push-requires : goal.push-requires
push-requires c =
    let name = law.function_named c.loop-entries.entries.names.padded c.loop-entries.entries.padded c.loop-entries.invariant
    c.next-t.ensures c.is_name.ensures c.if-not-is_name.false c.is_function_taken.ensures in
    let new : law.NewFunction name c.arity.result = record { not_taken = c.if-is_function_taken.false; arity = c.arity.ensures } in
    law.functions_room new

pub loop-entries-smaller : goal.loop-entries-smaller
loop-entries-smaller c =
    let name = law.function_named c.loop-entries.entries.names.padded c.loop-entries.entries.padded c.loop-entries.invariant
    c.next-t.ensures c.is_name.ensures c.if-not-is_name.false c.is_function_taken.ensures in
    let new : law.NewFunction name c.arity.result = record { not_taken = c.if-is_function_taken.false; arity = c.arity.ensures } in
    let l = law.functions_room new in
    omega arith

pub loop-entries-preserved : goal.loop-entries-preserved
loop-entries-preserved c =
    let name = law.function_named c.loop-entries.entries.names.padded c.loop-entries.entries.padded c.loop-entries.invariant
    c.next-t.ensures c.is_name.ensures c.if-not-is_name.false c.is_function_taken.ensures in
    let new : law.NewFunction name c.arity.result = record { not_taken = c.if-is_function_taken.false; arity = c.arity.ensures } in
    rw (c.push.ensures.items, c.push.ensures.arities, c.push.ensures.count) (law.functions_turn new c.in_ok-n.was)
