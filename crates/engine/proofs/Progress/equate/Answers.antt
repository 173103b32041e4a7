use Rattle.std.proofs.Common.{refl}
use Rattle.engine.proofs.Theory.EngineLaws.{equated_same, equated_merged}
use Rattle.engine.proofs.Progress.equate.Goals as goal

pub returns-then-terms-x-clause-equated : goal.returns-then-terms-x-clause-equated
returns-then-terms-x-clause-equated c = equated_merged _ _ _ _ _ _ _ _ _ _ _ c.requires _ _ refl refl _ _ _ c.merge.ensures.classes

pub returns-else-terms-x-clause-equated : goal.returns-else-terms-x-clause-equated
returns-else-terms-x-clause-equated c = equated_same _ _ _ _ _ _ _ _ _ _ _ c.requires _ _ refl refl c.if-terms-x.false
