use Rattle.std.proofs.Common.{ap}
use Rattle.streaming.specs.Monitor.{ended}
use Rattle.exports.proofs.CallLaws.{keeps_taken, keeps_refused}
use Rattle.exports.proofs.calls.keep.Goals as goal

pub returns-in-Ok : goal.returns-in-Ok
returns-in-Ok c = keeps_taken _ c.args.state.now _ (ap ended c.in-Ok.is) c.put_monitor.ensures

pub returns-in_default : goal.returns-in_default
returns-in_default c = keeps_refused _ c.args.state.now _ (ap ended c.in_default.is)
