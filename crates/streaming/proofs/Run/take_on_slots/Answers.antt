use Rattle.streaming.proofs.Pairs.{taken_refused}
use Rattle.streaming.proofs.Run.take_on_slots.Goals as goal

pub returns-in_default : goal.returns-in_default
returns-in_default c = taken_refused _ _ _ _ c.in_default.is
