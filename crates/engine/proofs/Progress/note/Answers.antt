use Rattle.std.proofs.Common.{arith}
use Rattle.engine.proofs.Theory.EngineLaws.{copy_below, unequal_below, noted_copy, noted_unequal, noted_apply, noted_equal}
use Rattle.engine.proofs.Progress.note.Goals as goal

pub bounds-self-source : goal.bounds-self-source
bounds-self-source c = (copy_below _ _ (c.requires 0) c.in-Copy.is).1

pub bounds-self-target : goal.bounds-self-target
bounds-self-target c = (copy_below _ _ (c.requires 0) c.in-Copy.is).0

pub bounds-self-first : goal.bounds-self-first
bounds-self-first c = (unequal_below _ _ (c.requires 0) c.in-Unequal.is).0

pub offset_bounds-self-tests : goal.offset_bounds-self-tests
offset_bounds-self-tests c = let h = unequal_below _ _ (c.requires 0) c.in-Unequal.is in let l = h.2 in omega arith

pub bounds-self-tests : goal.bounds-self-tests
bounds-self-tests c = (unequal_below _ _ (c.requires 0) c.in-Unequal.is).2

pub bounds-self-second : goal.bounds-self-second
bounds-self-second c = (unequal_below _ _ (c.requires 0) c.in-Unequal.is).1

pub offset_bounds-self-tests-in-Unequal : goal.offset_bounds-self-tests-in-Unequal
offset_bounds-self-tests-in-Unequal c = let h = unequal_below _ _ (c.requires 0) c.in-Unequal.is in let l = h.2 in omega arith

pub bounds-self-tests-in-Unequal : goal.bounds-self-tests-in-Unequal
bounds-self-tests-in-Unequal c = (unequal_below _ _ (c.requires 0) c.in-Unequal.is).2

pub overflow_add-self : goal.overflow_add-self
overflow_add-self c = let h = unequal_below _ _ (c.requires 0) c.in-Unequal.is in let l = h.2 in omega arith

pub returns-in-Copy-clause-noted : goal.returns-in-Copy-clause-noted
returns-in-Copy-clause-noted c n = noted_copy _ _ _ _ _ c.in-Copy.is

pub returns-in-Unequal-clause-noted : goal.returns-in-Unequal-clause-noted
returns-in-Unequal-clause-noted c n = noted_unequal _ _ _ _ _ c.in-Unequal.is

pub returns-in-Apply-clause-noted : goal.returns-in-Apply-clause-noted
returns-in-Apply-clause-noted c n = noted_apply _ _ _ _ _ c.in-Apply.is

pub returns-in-Equal-clause-noted : goal.returns-in-Equal-clause-noted
returns-in-Equal-clause-noted c n = noted_equal _ _ _ _ _ c.in-Equal.is
