use mathlib.Core.Path.{refl}
use Rattle.exports.proofs.CallLaws.{start_short, start_none, start_done}
use borrow.Author.Rules.{rules}
use Rattle.exports.proofs.calls.fadzgime_monitor_start.Goals as goal

pub returns-then-answer-lt-STEP_NUMBERS : goal.returns-then-answer-lt-STEP_NUMBERS
returns-then-answer-lt-STEP_NUMBERS c = start_short _ _ _ c.if-answer-lt-STEP_NUMBERS.true

pub returns-then-state-lt-MONITOR_SIZE : goal.returns-then-state-lt-MONITOR_SIZE
returns-then-state-lt-MONITOR_SIZE c =
    start_none _ _ _ _ _ c.if-answer-lt-STEP_NUMBERS.false c.if-state-lt-MONITOR_SIZE.true refl refl c.store.ensures

pub returns : goal.returns
returns c =
    start_done _ _ _ _ _ _ _ c.if-answer-lt-STEP_NUMBERS.false c.if-state-lt-MONITOR_SIZE.false c.started-outcome.ensures c.keep.ensures
    c.stepped_numbers.ensures (search rules) c.store-2.ensures
