use Rattle.engine.proofs.Theory.EngineLaws.{applied}
use Rattle.engine.proofs.apply.Goals as goal

pub returns-clause-applied : goal.returns-clause-applied
returns-clause-applied c = applied _ _ _ _ _ _ _ _ _ _ _ c.requires _ _ _ _ c.signature-c.ensures c.enter-found.ensures _ c.name-class.ensures
