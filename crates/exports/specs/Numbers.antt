-- The answers of the monitor's run, of the shown model and of the reader as numbers in a lent slice. In these, on a refusal the numbers behind its
-- place are 0; without one the first two are 0.
use Rattle.std.specs.Prelude.{◌≡◌, ℕ, List, [], ◌∷◌, ◌++◌, ltb, length, drop}
use Rattle.base.specs.Choice.{pick}
use Rattle.letters.specs.Answers.{Answer, value, refusal}
use Rattle.letters.specs.Editions.{first_edition, most_letters}
use Rattle.traces.specs.ReadingParts.{reading_within}
use Rattle.macros.specs.Points.{size_block}
use Rattle.streaming.specs.Run.{run_answer}
use Rattle.streaming.specs.Stream.{judged_bytes}
use Rattle.model_writer.specs.Answer.{answer_to, output_after, Means}
use Rattle.model_writer.specs.Answer as shown
use Rattle.grammar.specs.Grammar.{Macro, header_of, expanded}
use Rattle.refusals.specs.Order.{Refusal}
use Rattle.refusals.specs.Accepted.{Accepted}

-- n numbers over the front of an answer that has room for them; a shorter answer stays as lent.
unfoldable pub laid_over : ℕ → List ℕ → List ℕ → List ℕ
laid_over n numbers answer = pick (ltb (length answer) n) (λ _. answer) λ _. numbers ++ drop n answer

-- ---- how many numbers a call answers

-- the monitor's run over a trace
abbrev pub run_count : ℕ
run_count = 4

-- the shown model
abbrev pub model_count : ℕ
model_count = 4

-- the reader of macros
abbrev pub macro_count : ℕ
macro_count = 5

-- ---- The monitor: refusal, place, first incoherent letter, first infeasible letter before it.

unfoldable pub run_numbers : Answer (ℕ × ℕ) → List ℕ
run_numbers (value letters) = 0 ∷ 0 ∷ letters.0 ∷ letters.1 ∷ []
run_numbers (refusal number place) = number ∷ place ∷ 0 ∷ 0 ∷ []

-- the answer after the bytes of a trace were judged
unfoldable pub monitored : (trace answer : List ℕ) → List ℕ
monitored trace answer = laid_over run_count (run_numbers (run_answer (judged_bytes trace))) answer

-- ---- The shown model: refusal, place, first infeasible letter, bytes of the model.

unfoldable pub model_numbers : shown.ModelAnswer → List ℕ
model_numbers (shown.model bytes) = 0 ∷ 0 ∷ 0 ∷ bytes ∷ []
model_numbers (shown.infeasible letter) = 0 ∷ 0 ∷ letter ∷ 0 ∷ []
model_numbers (shown.refusal number place) = number ∷ place ∷ 0 ∷ 0 ∷ []

-- the answer after the model of a trace was shown in an output of so many bytes
unfoldable pub modelled : (trace : List ℕ) (room : ℕ) (answer : List ℕ) → List ℕ
modelled trace room answer = laid_over model_count (model_numbers (answer_to (reading_within most_letters first_edition trace) room)) answer

-- the output after it; it stays as lent where the answer has no room
unfoldable pub model_output : (trace out answer : List ℕ) → List ℕ
model_output trace out answer = pick (ltb (length answer) model_count) (λ _. out) λ _. output_after (reading_within most_letters first_edition trace) out

-- what the answer means, with the output out before and out' after
abbrev pub ModelMeans : (trace out out' : List ℕ) → Type 0
ModelMeans trace out out' = Means trace out (answer_to (reading_within most_letters first_edition trace) (length out)) out'

-- ---- The reader: refusal, place, registers (hidden ones too), functions (tests too), points.

unfoldable pub accepted_numbers : Macro → List ℕ
accepted_numbers m = 0 ∷ 0 ∷ (header_of m).registers ∷ (header_of m).functions ∷ size_block (expanded m) ∷ []

unfoldable pub refused_numbers : (number place : ℕ) → List ℕ
refused_numbers number place = number ∷ place ∷ 0 ∷ 0 ∷ 0 ∷ []

-- The answer after a text was read; `answer` is lent, and `answer'` is what it holds afterwards. Each text is accepted as one macro or refused by
-- one number at one place (`Accepted.exactly-one` of crate `refusals`), so that the answer is settled (`Held.one-read`).
pub record ReadsMacro (text answer answer' : List ℕ) : Type 0 where
  pub accepted : (m : Macro) → Accepted text m → answer' ≡ laid_over macro_count (accepted_numbers m) answer
  pub refused : (number place : ℕ) → Refusal text number place → answer' ≡ laid_over macro_count (refused_numbers number place) answer
