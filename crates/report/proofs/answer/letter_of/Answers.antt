use Rattle.std.proofs.Common.{◌≡◌, refl, ap, ◌∙◌, Option, Some, None}
use Rattle.std.specs.Option.{unwrap_or}
use Rattle.letters.specs.Answers.{Answer, on_answer}
use Rattle.letters.specs.CodeAnswers.{letter_answer}
use Rattle.letters.specs.declared.Letter.{Letter}
use Rattle.letters.specs.declared.Letter.TheVariants.{Copy}
use Rattle.report.specs.Shown.{letter_or_copy}
use Rattle.report.proofs.answer.letter_of.Goals as goal

chosen : (o : Option Letter) → unwrap_or o (Copy 0 0) ≡ on_answer (letter_answer o) (λ l. l) (λ _ _. Copy 0 0)
chosen (Some l) = refl
chosen None = refl

pub returns : goal.returns
unfolding letter_or_copy
returns c =
    c.unwrap_or.ensures ∙ chosen c.letter_at.result ∙ ap (λ (d : Answer Letter). on_answer d (λ l. l) (λ _ _. Copy 0 0)) c.letter_at.ensures
