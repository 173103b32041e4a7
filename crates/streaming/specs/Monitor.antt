-- The monitor: its start, and its step at a letter's word, for every monitor value. What the code computes (SPEC 6.1, 6.2).
use Rattle.std.specs.Prelude.{ℕ, true, false, Result, Ok, Err}
use Rattle.letters.specs.declared.reasons.Reason.{Reason}
use Rattle.letters.specs.Reasons.{number_of}
use Rattle.base.specs.Choice.{pick}
use Rattle.letters.specs.declared.Header.{Header}
use Rattle.letters.specs.declared.Letter.{Letter}
use Rattle.letters.specs.Answers.{Answer, value, refusal, on_answer}
use Rattle.letters.specs.Editions.{first_edition}
use Rattle.letters.specs.Coding.{decode_header, decode_letter}
use Rattle.window.specs.Perform.{fresh_of, judge_of, perform_of}
use Rattle.streaming.specs.declared.Monitor.{Monitor}
use Rattle.streaming.specs.Outcome.{StepOutcome}
use Rattle.streaming.specs.Outcome as outcome
use Rattle.streaming.specs.Outcome.{Stepped}

-- "The monitor takes a letter a call and counts none: it refuses a header by 3 or a letter by 4, place 0." (SPEC 6.1, 6.2)
abbrev pub outcome_answer : StepOutcome → Answer (Unit {0})
outcome_answer outcome.Taken = value tt
outcome_answer (outcome.Refused number) = refusal number 0

abbrev pub stepped : StepOutcome → Monitor → Stepped
stepped o m = record { outcome = o; monitor = m }

-- What a refused start returns: it is stopped, and under its header no letter is well formed (SPEC 6.1).
abbrev pub idle_of : Monitor
idle_of = record { header = record { registers = 0; functions = 0; binary = 0 }; window = fresh_of 0; running = false }

-- the monitor of a header, before the first letter
abbrev pub fresh_monitor : Header → Monitor
fresh_monitor h = record { header = h; window = fresh_of h.registers; running = true }

-- The start with a header's word: "it refuses a header by 3" (SPEC 6.1).
unfoldable pub start_of : ℕ → Stepped
start_of word =
    on_answer (decode_header first_edition word) (λ h. stepped outcome.Taken (fresh_monitor h))
    λ number _. stepped (outcome.Refused number) idle_of

-- A letter is judged, and then performed if it is coherent. "An incoherent letter only stops the monitor: it and all later letters move
-- neither window nor infeasible mark." (SPEC 6.2)
unfoldable pub moved_of : Monitor → Letter → Monitor
moved_of m a =
    pick m.running
    (λ _. pick (judge_of m.window a)
    (λ _. record { header = m.header; window = perform_of m.window a; running = true })
    λ _. record { header = m.header; window = m.window; running = false })
    λ _. m

-- The step at a letter's word: "it refuses a letter by 4, place 0, its window unchanged." (SPEC 6.2)
unfoldable pub advance : Monitor → ℕ → Stepped
advance m word =
    on_answer (decode_letter first_edition m.header word) (λ a. stepped outcome.Taken (moved_of m a))
    λ number _. stepped (outcome.Refused number) m

-- ---- what the code returns

-- what a start returns; a refused start leaves no monitor, and the idle one stands for it
abbrev pub started : Result Monitor Reason → Stepped
started (Ok m) = stepped outcome.Taken m
started (Err r) = stepped (outcome.Refused (number_of r)) idle_of

-- how a call ended
abbrev pub ended : Result (Unit {0}) Reason → StepOutcome
ended (Ok u) = outcome.Taken
ended (Err r) = outcome.Refused (number_of r)

-- what a step returns, and the monitor after it
abbrev pub after : Result (Unit {0}) Reason → Monitor → Stepped
after r m = stepped (ended r) m
