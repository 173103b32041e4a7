use mathlib.Core.Path.{sym, ◌∙◌}
use Rattle.exports.proofs.CallLaws.{push_short, push_none, push_done, held_long}
use Rattle.exports.proofs.calls.fadzgime_stream_push.Goals as goal

pub returns-then-answer-lt1 : goal.returns-then-answer-lt1
returns-then-answer-lt1 c = push_short _ _ _ c.if-answer-lt1.true

pub stream_in-stream-requires : goal.stream_in-stream-requires
stream_in-stream-requires c = held_long _ _ _ (sym c.holds.ensures ∙ c.if-holds.true)

pub put_stream-requires : goal.put_stream-requires
put_stream-requires c = held_long _ _ _ (sym c.holds.ensures ∙ c.if-holds.true)

pub returns-then-holds : goal.returns-then-holds
returns-then-holds c =
    push_done _ _ _ _ _ _ c.if-answer-lt1.false (sym c.holds.ensures ∙ c.if-holds.true)
    c.stream_in-stream.ensures c.push_all.ensures c.put_stream.ensures

pub returns : goal.returns
returns c = push_none _ _ _ c.if-answer-lt1.false (sym c.holds.ensures ∙ c.if-holds.false)
