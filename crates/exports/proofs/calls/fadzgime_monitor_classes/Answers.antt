use Rattle.std.proofs.Common.{refl, sym, ◌∙◌}
use Rattle.exports.proofs.CallLaws.{asked_short, asked_none, asked_done, held_long}
use Rattle.exports.proofs.calls.fadzgime_monitor_classes.Goals as goal

pub returns-then-answer-lt-ASKED_NUMBERS : goal.returns-then-answer-lt-ASKED_NUMBERS
returns-then-answer-lt-ASKED_NUMBERS c = asked_short _ _ _ _ c.if-answer-lt-ASKED_NUMBERS.true

pub monitor_in-monitor-requires : goal.monitor_in-monitor-requires
monitor_in-monitor-requires c = held_long _ _ _ (sym c.holds.ensures ∙ c.if-holds.true)

pub returns-then-holds : goal.returns-then-holds
returns-then-holds c =
    asked_done _ _ _ _ _ _ _ _ c.if-answer-lt-ASKED_NUMBERS.false (sym c.holds.ensures ∙ c.if-holds.true)
    c.monitor_in-monitor.ensures c.class_count-count.ensures.value c.class_count-count.ensures.means refl refl c.store.ensures

pub returns : goal.returns
returns c =
    asked_none _ _ _ _ _ _ c.if-answer-lt-ASKED_NUMBERS.false (sym c.holds.ensures ∙ c.if-holds.false) refl refl c.store-2.ensures
