use Rattle.engine.proofs.Theory.EngineLaws.{notable, computable, equatable, performed_copy, performed_unequal, performed_apply, performed_equal}
use Rattle.engine.proofs.Progress.step.Goals as goal

pub note-requires : goal.note-requires
note-requires c = notable _ _ _ _ _ _ _ _ _ _ _ _ c.requires

pub note-requires-in-Unequal : goal.note-requires-in-Unequal
note-requires-in-Unequal c = notable _ _ _ _ _ _ _ _ _ _ _ _ c.requires

pub compute-requires : goal.compute-requires
compute-requires c = computable _ _ _ _ _ _ _ _ _ _ _ _ c.requires c.in-Apply.is

pub equate-requires : goal.equate-requires
equate-requires c = equatable _ _ _ _ _ _ _ _ _ _ _ _ c.requires c.in-Equal.is

pub returns-in-Copy-clause-performed : goal.returns-in-Copy-clause-performed
returns-in-Copy-clause-performed c = rw c.note.ensures.index (performed_copy _ _ _ _ _ _ _ _ _ _ _ _ _ _ _ _ c.in-Copy.is
    (c.note.ensures.noted c.args.terms.now.count))

pub returns-in-Unequal-clause-performed : goal.returns-in-Unequal-clause-performed
returns-in-Unequal-clause-performed c = rw c.note-in-Unequal.ensures.index (performed_unequal _ _ _ _ _ _ _ _ _ _ _ _ _ _ _ _ c.in-Unequal.is
    (c.note-in-Unequal.ensures.noted c.args.terms.now.count))

pub returns-in-Apply-clause-performed : goal.returns-in-Apply-clause-performed
returns-in-Apply-clause-performed c = let e = c.compute.ensures.tests in
    rw e (performed_apply _ _ _ _ _ _ _ _ _ _ _ _ _ _ _ _ _ _ _ _ c.in-Apply.is (rw e at c.compute.ensures.computed))

pub returns-in-Equal-clause-performed : goal.returns-in-Equal-clause-performed
returns-in-Equal-clause-performed c = let e = c.equate.ensures.rest in
    rw (c.equate.ensures.terms, e) (performed_equal _ _ _ _ _ _ _ _ _ _ _ _ _ _ _ _ c.in-Equal.is (rw e at c.equate.ensures.equated))
