-- The run over a trace's words: the letters are numbered, and the first incoherent and the first infeasible one are named. What the code computes (SPEC 6.3).
use Rattle.std.specs.Prelude.{ℕ, ◌+◌, Bool, not, ltb, eqb}
use Rattle.base.specs.Choice.{pick}
use Rattle.letters.specs.declared.Header.{Header}
use Rattle.letters.specs.declared.Letter.{Letter}
use Rattle.letters.specs.Answers.{Answer, value, refusal, on_answer}
use Rattle.window.specs.Perform.{perform_of}
use Rattle.window.specs.declared.Window.{Window}
use Rattle.streaming.specs.Monitor.{outcome_answer, start_of, advance}
use Rattle.streaming.specs.declared.Monitor.{Monitor}
use Rattle.streaming.specs.declared.Run.{Run}
use Rattle.streaming.specs.declared.RunAnswer.{RunAnswer}
use Rattle.streaming.specs.declared.RunAnswer.TheVariants.{Judged, Refused}

-- "The trace run numbers the letters": the first incoherent letter and the first infeasible one before it, 0 for none; or a refusal, its
-- number and place (SPEC 6.3).
abbrev pub run_answer : RunAnswer → Answer (ℕ × ℕ)
run_answer (Judged incoherent infeasible) = value (incoherent, infeasible)
run_answer (Refused number place) = refusal number place

-- The last number of 64 bits. It stands for itself and for all greater numbers (SPEC 6.5).
unfoldable pub last : ℕ
last = 18446744073709551615

-- the number that stands for n
unfoldable pub capped : ℕ → ℕ
capped n = pick (ltb n last) (λ _. n) λ _. last

-- letters that 64 bits cannot number have the last number
abbrev pub capped_answer : Answer (ℕ × ℕ) → Answer (ℕ × ℕ)
capped_answer (value named) = value (capped named.0, capped named.1)
capped_answer (refusal number place) = refusal number (capped place)

-- the number after n
unfoldable pub next_number : ℕ → ℕ
next_number n = pick (ltb n last) (λ _. n + 1) λ _. n

-- the letter named before, if there is one (it is not 0), or else this number if it is so now
unfoldable pub first_of : ℕ → Bool → ℕ → ℕ
first_of named now number = pick (eqb named 0) (λ _. pick now (λ _. number) λ _. 0) λ _. named

abbrev pub run_with : Monitor → ℕ → RunAnswer → Run
run_with m letters verdict = record { monitor = m; letters = letters; verdict = verdict }

-- the run with these parts
abbrev pub run_of : Header → Window → Bool → ℕ → RunAnswer → Run
run_of h w running letters verdict = run_with (record { header = h; window = w; running = running }) letters verdict

-- the window after a letter, which is performed only if it is fine
unfoldable pub performed_of : Window → Bool → Letter → Window
performed_of w fine a = pick fine (λ _. perform_of w a) λ _. w

-- the run after a letter of this number that left this monitor
unfoldable pub judged_run : Monitor → ℕ → ℕ → ℕ → Run
judged_run m number incoherent infeasible =
    run_with m number (Judged (first_of incoherent (not m.running) number) (first_of infeasible m.window.infeasible number))

-- the run before the first letter
unfoldable pub begun_run : ℕ → Run
begun_run word = run_with (start_of word).monitor 0 (on_answer (outcome_answer (start_of word).outcome) (λ _. Judged 0 0) Refused)

-- the run after a letter's word; a run that has refused stays as it is
unfoldable pub taken_run : Run → ℕ → Run
taken_run run word =
    let s = advance run.monitor word in
    let n = next_number run.letters in
    on_answer (run_answer run.verdict)
    (λ named. on_answer (outcome_answer s.outcome) (λ _. judged_run s.monitor n named.0 named.1)
    λ number _. run_with run.monitor run.letters (Refused number n))
    λ _ _. run
