-- Where the answer is too short, all slices stay; else the numbers of the verdict are stored.
use Rattle.std.proofs.Common.{rules}
use Rattle.exports.proofs.Laws.{judging_short, judging_stored}
use Rattle.exports.proofs.fadzgime_verdict.Goals as goal

pub returns-then-answer-lt-VERDICT_NUMBERS : goal.returns-then-answer-lt-VERDICT_NUMBERS
returns-then-answer-lt-VERDICT_NUMBERS c = judging_short _ _ _ _ c.if-answer-lt-VERDICT_NUMBERS.true

pub returns : goal.returns
returns c =
    let room = c.if-answer-lt-VERDICT_NUMBERS.false in
    judging_stored _ _ _ _ _ _ _ _ c.judge_macro-verdict.result c.judge_macro-verdict.ensures c.verdict_numbers-numbers.ensures (search rules) room
    c.store.ensures
