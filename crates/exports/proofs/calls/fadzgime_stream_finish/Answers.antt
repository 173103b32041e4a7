use mathlib.Core.Path.{refl, sym, ◌∙◌}
use Rattle.exports.proofs.CallLaws.{finish_short, finish_none, finish_done, held_long}
use borrow.Author.Rules.{rules}
use Rattle.exports.proofs.calls.fadzgime_stream_finish.Goals as goal

pub returns-then-answer-lt-RUN_NUMBERS : goal.returns-then-answer-lt-RUN_NUMBERS
returns-then-answer-lt-RUN_NUMBERS c = finish_short _ _ c.if-answer-lt-RUN_NUMBERS.true

pub stream_in-requires : goal.stream_in-requires
stream_in-requires c = held_long _ _ _ (sym c.holds.ensures ∙ c.if-holds.true)

pub returns-then-holds : goal.returns-then-holds
returns-then-holds c =
    finish_done _ _ _ _ _ _ c.if-answer-lt-RUN_NUMBERS.false (sym c.holds.ensures ∙ c.if-holds.true)
    c.stream_in.ensures c.finish-verdict.ensures c.run_numbers-numbers.ensures (search rules) c.store.ensures

pub returns : goal.returns
returns c =
    finish_none _ _ _ _ c.if-answer-lt-RUN_NUMBERS.false (sym c.holds.ensures ∙ c.if-holds.false) refl refl c.store-2.ensures
