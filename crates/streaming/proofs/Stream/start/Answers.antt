use Rattle.streaming.proofs.Theory.Meanings.{stream_starts}
use Rattle.streaming.proofs.Stream.start.Goals as goal

pub returns : goal.returns
returns c = stream_starts _ (rw c.idle.ensures.value)
