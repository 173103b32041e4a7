use Rattle.streaming.specs.SlotRun.{slots_performed}
use Rattle.streaming.proofs.by_slots.perform_if.Goals as goal

pub returns-then-fine : goal.returns-then-fine
unfolding slots_performed
returns-then-fine c = rw c.if-fine.true c.perform.ensures.after

pub returns-else-fine : goal.returns-else-fine
unfolding slots_performed
returns-else-fine c = rw c.if-fine.false
