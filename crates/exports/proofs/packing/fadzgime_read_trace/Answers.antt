use Rattle.std.proofs.Common.{rules}
use Rattle.exports.proofs.CallLaws.{reads_short, reads_stored}
use Rattle.exports.proofs.packing.fadzgime_read_trace.Goals as goal

pub returns-then-answer-lt-READ_NUMBERS : goal.returns-then-answer-lt-READ_NUMBERS
returns-then-answer-lt-READ_NUMBERS c = reads_short _ _ _ c.if-answer-lt-READ_NUMBERS.true

pub returns : goal.returns
returns c =
    reads_stored _ _ _ _ _ _ c.unpack_trace-read.result c.unpack_trace-read.ensures c.read_numbers-numbers.ensures (search rules)
    c.if-answer-lt-READ_NUMBERS.false c.store.ensures
