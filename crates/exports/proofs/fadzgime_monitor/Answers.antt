use Rattle.std.proofs.Common.{rules, subst}
use Rattle.streaming.specs.Demand2.{Demand2}
use Rattle.streaming.specs.Run.{run_answer}
use Rattle.exports.proofs.Laws.{monitored_short, monitored_stored, too_short}
use Rattle.exports.proofs.fadzgime_monitor.Goals as goal

pub returns-then-answer-lt-RUN_NUMBERS-clause-answer_after : goal.returns-then-answer-lt-RUN_NUMBERS-clause-answer_after
returns-then-answer-lt-RUN_NUMBERS-clause-answer_after c = monitored_short _ _ c.if-answer-lt-RUN_NUMBERS.true

pub returns-then-answer-lt-RUN_NUMBERS-clause-demand2 : goal.returns-then-answer-lt-RUN_NUMBERS-clause-demand2
returns-then-answer-lt-RUN_NUMBERS-clause-demand2 c room = absurd (too_short c.if-answer-lt-RUN_NUMBERS.true room)

pub returns-clause-answer_after : goal.returns-clause-answer_after
returns-clause-answer_after c =
    monitored_stored _ _ _ _ _ c.judge_trace-verdict.ensures.0 c.run_numbers-numbers.ensures (search rules) c.if-answer-lt-RUN_NUMBERS.false c.store.ensures

pub returns-clause-demand2 : goal.returns-clause-demand2
returns-clause-demand2 c room =
    let answer = c.judge_trace-verdict.ensures in
    subst (λ v. Demand2 c.args.trace.now (run_answer v)) answer.0 answer.1
