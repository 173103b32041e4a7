use Rattle.states.specs.States.{stream_in}
use Rattle.states.proofs.stream_in.Goals as goal

pub returns : goal.returns
unfolding stream_in
returns c =
    rw (
      c.phase_of-phase.ensures,
      c.verdict_of-verdict.ensures,
      c.number_at-letters.ensures,
      c.number_at-first.ensures,
      c.number_at-second.ensures,
      c.monitor_in-monitor.ensures,
    )
