use Rattle.states.proofs.Laws.{keeps_monitor}
use Rattle.states.proofs.put_monitor.Goals as goal

pub returns : goal.returns
returns c =
    keeps_monitor c.args.kind c.args.m c.args.state.now _ _ _ c.head.ensures c.flags-marked.ensures c.put_parts.ensures.sizes
    c.put_parts.ensures.state_after
