use Rattle.std.proofs.Common.{refl}
use Rattle.streaming.proofs.Theory.Meanings.{run_begins}
use Rattle.streaming.proofs.Laws.{begun_taken, begun_refused}
use Rattle.streaming.proofs.Run.begin.Goals as goal

pub returns-in-Ok : goal.returns-in-Ok
returns-in-Ok c = run_begins _ _ (begun_taken _ _ c.in-Ok.ensures.computed refl)

pub returns-in-Err : goal.returns-in-Err
returns-in-Err c = run_begins _ _ (rw (c.idle.ensures.value, c.from.ensures) (begun_refused _ _ c.in-Err.ensures.computed _ refl))
