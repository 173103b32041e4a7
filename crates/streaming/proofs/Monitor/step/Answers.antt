use Rattle.streaming.proofs.Theory.Meanings.{advances}
use Rattle.streaming.proofs.Laws.{step_none, step_some, step_within}
use Rattle.streaming.proofs.Monitor.step.Goals as goal

pub returns-in_default : goal.returns-in_default
returns-in_default c = advances _ _ _ (step_none c.args.self.now _ c.in_default.ensures)

pub move_on-requires : goal.move_on-requires
move_on-requires c = step_within _ _ _ c.in-Some.ensures

pub returns : goal.returns
returns c = advances _ _ _ (step_some c.args.self.now _ _ _ c.in-Some.ensures c.move_on.ensures)
