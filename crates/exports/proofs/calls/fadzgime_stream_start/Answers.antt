use Rattle.exports.proofs.CallLaws.{stream_short, stream_none, stream_started}
use Rattle.exports.proofs.calls.fadzgime_stream_start.Goals as goal

pub returns-then-answer-lt1 : goal.returns-then-answer-lt1
returns-then-answer-lt1 c = stream_short _ _ c.if-answer-lt1.true

pub returns-then-state-lt-STREAM_SIZE : goal.returns-then-state-lt-STREAM_SIZE
returns-then-state-lt-STREAM_SIZE c = stream_none _ _ c.if-answer-lt1.false c.if-state-lt-STREAM_SIZE.true

pub returns : goal.returns
returns c = stream_started _ _ _ _ c.if-answer-lt1.false c.if-state-lt-STREAM_SIZE.false c.start.ensures c.put_stream.ensures
