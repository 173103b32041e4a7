use Rattle.model_writer.proofs.Theory.AnswerLaws.{stopped_none, stopped_some}
use Rattle.model_writer.proofs.name_infeasible.Goals as goal

pub returns-in-None : goal.returns-in-None
returns-in-None c = stopped_none _ _ _ c.first_malformed.ensures c.in-None.is

pub returns-in-Some : goal.returns-in-Some
returns-in-Some c = rw c.at.ensures (stopped_some _ _ _ _ c.first_malformed.ensures c.in-Some.is)
