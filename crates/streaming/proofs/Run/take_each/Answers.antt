use Rattle.streaming.proofs.Pairs.{taken_next, taken_last}
use Rattle.streaming.proofs.Run.take_each.Goals as goal

pub loop-high-preserved : goal.loop-high-preserved
loop-high-preserved c = taken_next c.args.bytes.now _ c.as_chunks.ensures.front _ c.loop-high.high-index _ c.loop-high.invariant _ _ _ c.loop-high-test.true
    c.word.ensures c.take.ensures.computed

pub returns : goal.returns
returns c = taken_last c.args.bytes.now _ c.as_chunks.ensures.front _ c.loop-high.high-index _ c.loop-high.invariant c.loop-high-test.false
