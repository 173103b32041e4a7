use Rattle.streaming.proofs.Theory.Meanings.{starts}
use Rattle.streaming.proofs.Laws.{start_none, start_some}
use Rattle.streaming.proofs.Monitor.start.Goals as goal

pub returns-in_default : goal.returns-in_default
returns-in_default c = starts _ _ (start_none _ c.in_default.ensures)

pub returns : goal.returns
returns c = starts _ _ (start_some _ _ _ c.in-Some.ensures c.fresh.ensures)
