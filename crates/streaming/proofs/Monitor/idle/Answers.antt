use Rattle.streaming.proofs.Theory.MonitorLaws.{idle_refuses}
use Rattle.streaming.proofs.Monitor.idle.Goals as goal

pub returns-clause-refuses : goal.returns-clause-refuses
returns-clause-refuses c = rw c.fresh.ensures idle_refuses
