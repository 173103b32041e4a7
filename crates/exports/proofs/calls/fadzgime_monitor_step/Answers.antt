use mathlib.Core.Path.{refl, sym, ◌∙◌}
use Rattle.exports.proofs.CallLaws.{step_short, step_none, step_done, held_long}
use borrow.Author.Rules.{rules}
use Rattle.exports.proofs.calls.fadzgime_monitor_step.Goals as goal

pub returns-then-answer-lt-STEP_NUMBERS : goal.returns-then-answer-lt-STEP_NUMBERS
returns-then-answer-lt-STEP_NUMBERS c = step_short _ _ _ c.if-answer-lt-STEP_NUMBERS.true

pub monitor_in-monitor-requires : goal.monitor_in-monitor-requires
monitor_in-monitor-requires c = held_long _ _ _ (sym c.holds.ensures ∙ c.if-holds.true)

pub keep-requires : goal.keep-requires
keep-requires c = held_long _ _ _ (sym c.holds.ensures ∙ c.if-holds.true)

pub returns-then-holds : goal.returns-then-holds
returns-then-holds c =
    step_done _ _ _ _ _ _ _ _ c.if-answer-lt-STEP_NUMBERS.false (sym c.holds.ensures ∙ c.if-holds.true)
    c.monitor_in-monitor.ensures c.step-outcome.ensures c.keep.ensures c.stepped_numbers.ensures (search rules) c.store.ensures

pub returns : goal.returns
returns c =
    step_none _ _ _ _ _ c.if-answer-lt-STEP_NUMBERS.false (sym c.holds.ensures ∙ c.if-holds.false) refl refl c.store-2.ensures
