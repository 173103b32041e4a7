use Rattle.std.proofs.Common.{rules}
use Rattle.exports.proofs.Laws.{read_short, read_stored}
use Rattle.exports.proofs.fadzgime_read.Goals as goal

pub returns-then-answer-lt-MACRO_NUMBERS : goal.returns-then-answer-lt-MACRO_NUMBERS
returns-then-answer-lt-MACRO_NUMBERS c = read_short _ _ c.if-answer-lt-MACRO_NUMBERS.true

pub returns : goal.returns
returns c =
    read_stored _ _ _ _ _ c.read-read.ensures c.macro_numbers-numbers.ensures (search rules) c.if-answer-lt-MACRO_NUMBERS.false c.store.ensures
