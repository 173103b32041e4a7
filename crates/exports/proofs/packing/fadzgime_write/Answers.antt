use Rattle.std.proofs.Common.{rules}
use Rattle.exports.proofs.CallLaws.{writes_short, writes_stored}
use Rattle.exports.proofs.packing.fadzgime_write.Goals as goal

pub returns-then-answer-lt-WRITTEN_NUMBERS : goal.returns-then-answer-lt-WRITTEN_NUMBERS
returns-then-answer-lt-WRITTEN_NUMBERS c = writes_short _ _ _ _ c.if-answer-lt-WRITTEN_NUMBERS.true

pub returns : goal.returns
returns c =
    writes_stored _ _ _ _ _ _ _ c.write_trace-written.result c.write_trace-written.ensures c.written_numbers-numbers.ensures (search rules)
    c.if-answer-lt-WRITTEN_NUMBERS.false c.store.ensures
