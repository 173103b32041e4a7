use Rattle.std.proofs.Common.{rules}
use Rattle.exports.proofs.Laws.{too_short, modelled_short, modelled_stored, output_short, output_shown, model_means}
use Rattle.exports.proofs.fadzgime_model.Goals as goal

pub returns-then-answer-lt-MODEL_NUMBERS-clause-answer_after : goal.returns-then-answer-lt-MODEL_NUMBERS-clause-answer_after
returns-then-answer-lt-MODEL_NUMBERS-clause-answer_after c = modelled_short _ _ _ c.if-answer-lt-MODEL_NUMBERS.true

pub returns-then-answer-lt-MODEL_NUMBERS-clause-out_after : goal.returns-then-answer-lt-MODEL_NUMBERS-clause-out_after
returns-then-answer-lt-MODEL_NUMBERS-clause-out_after c = output_short _ _ _ c.if-answer-lt-MODEL_NUMBERS.true

pub returns-then-answer-lt-MODEL_NUMBERS-clause-model_means : goal.returns-then-answer-lt-MODEL_NUMBERS-clause-model_means
returns-then-answer-lt-MODEL_NUMBERS-clause-model_means c room = absurd (too_short c.if-answer-lt-MODEL_NUMBERS.true room)

pub returns-clause-answer_after : goal.returns-clause-answer_after
returns-clause-answer_after c =
    modelled_stored _ _ _ _ _ c.show-shown.result c.show-shown.ensures.answer c.model_numbers-numbers.ensures (search rules)
    c.if-answer-lt-MODEL_NUMBERS.false c.store.ensures

pub returns-clause-out_after : goal.returns-clause-out_after
returns-clause-out_after c = output_shown _ _ _ _ c.if-answer-lt-MODEL_NUMBERS.false c.show-shown.ensures.output

pub returns-clause-model_means : goal.returns-clause-model_means
returns-clause-model_means c room = model_means c.show-shown.ensures
