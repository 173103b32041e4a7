use Rattle.std.proofs.Common.{arith}
use Rattle.closure.proofs.Theory.Propagation.{underway_start, united_is, merged_is}
use Rattle.closure.proofs.Theory.Uses.{merged_unused}
use Rattle.closure.proofs.Terms.merge.Goals as goal

pub returns-then-not-uses-clause-classes : goal.returns-then-not-uses-clause-classes
returns-then-not-uses-clause-classes c = let a = c.requires in merged_unused _ _ _ _ _ _ _ _ _ _ a.0 a.1 a.2 a.3 a.4 _
    (united_is _ _ _ _ _ (omega (arith, a.0.long, a.0.within)) c.unite.ensures) _ _ c.max-d.ensures c.uses.ensures c.if-not-uses.true

pub propagate-requires : goal.propagate-requires
propagate-requires c = let a = c.requires in let (z, e) = c.resume-start.ensures in
    rw e (underway_start _ _ _ _ _ _ _ _ _ _ _ _ _ _ a.0 a.1 a.2 a.3 a.4 c.unite-2.ensures c.max-d.ensures z)

pub returns-clause-classes : goal.returns-clause-classes
returns-clause-classes c = let a = c.requires in merged_is _ _ _ _ _ _ _ _ _ _ _ _ a.0 a.1 a.2
    (united_is _ _ _ _ _ (omega (arith, a.0.long, a.0.within)) c.unite-2.ensures) c.propagate.ensures.classes
