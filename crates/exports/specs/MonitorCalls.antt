-- What the calls of the monitor, a letter a call, and of the run over a trace in parts leave: every number of the answer and every byte of the state,
-- and what they mean for the trace or the bytes taken so far.
use Rattle.std.specs.Prelude.{◌≡◌, ℕ, ◌≤◌, ◌<◌, Bool, true, false, List, [], ◌∷◌, ◌++◌, ltb, eqb, length, get_or, drop}
use Rattle.base.specs.Choice.{pick}
use Rattle.letters.specs.declared.Header.{Header}
use Rattle.letters.specs.declared.Letter.{Letter}
use Rattle.letters.specs.Letters.{Fits}
use Rattle.letters.specs.Answers.{Answer, value, on_answer}
use Rattle.letters.specs.Editions.{first_edition}
use Rattle.letters.specs.Letters.{HeaderFits}
use Rattle.letters.specs.Words.{header_word, letter_word}
use Rattle.traces.specs.Reading.{letter_count}
use Rattle.letters.specs.RefusalNumbers.{header_malformed, letter_malformed}
use Rattle.semantics.specs.Terms.{Trace, begin, ◌▸◌, State, state}
use Rattle.semantics.specs.Judgement.{Longest}
use Rattle.window.specs.Layout.{registers}
use Rattle.window.specs.Classes.{ClassCount}
use Rattle.window.specs.declared.Window.{Window}
use Rattle.unequal_flags.specs.Flags.{WordOfState}
use Rattle.unequal_flags.specs.Words.{unequal_word}
use Rattle.records.specs.Records.{flag}
use Rattle.streaming.specs.Monitor.{outcome_answer, start_of, advance}
use Rattle.streaming.specs.Run.{last, run_answer}
use Rattle.streaming.specs.Stream.{empty_stream, pushed_all, finished_of}
use Rattle.streaming.specs.Demand2.{Demand2}
use Rattle.streaming.specs.Run.{capped_answer}
use Rattle.streaming.specs.Meanings.{Monitors, Streams}
use Rattle.streaming.specs.declared.Monitor.{Monitor}
use Rattle.streaming.specs.Outcome.{StepOutcome}
use Rattle.streaming.specs.Outcome.{Stepped}
use Rattle.states.specs.States.{monitor_size, stream_size, monitor_then, monitor_in, stream_then, stream_in}
use Rattle.exports.specs.Numbers.{run_count, run_numbers}

-- the first byte of a state
abbrev pub monitor_kind : ℕ
monitor_kind = 1

abbrev pub stream_kind : ℕ
stream_kind = 2

-- SPEC 11 has no number for a state that is too short or of another kind.
abbrev pub no_state : ℕ
no_state = 255

abbrev pub no_state_numbers : List ℕ
no_state_numbers = no_state ∷ 0 ∷ 0 ∷ 0 ∷ []

-- whether a state is long enough and of this kind
unfoldable pub holds_state : ℕ → ℕ → List ℕ → Bool
holds_state kind size s = pick (ltb (length s) size) (λ _. false) λ _. eqb (get_or s 0 0) kind

-- ---- a letter a call

-- how many numbers a call answers
abbrev pub step_count : ℕ
step_count = 4

abbrev pub outcome_number : StepOutcome → ℕ
outcome_number o = on_answer (outcome_answer o) (λ _. 0) λ number _. number

-- refusal (0: none), place, whether the monitor runs, its infeasible mark
abbrev pub monitor_numbers : ℕ → Monitor → List ℕ
monitor_numbers number m = number ∷ 0 ∷ flag m.running ∷ flag m.window.infeasible ∷ []

-- A refused call answers the two marks too: after a refused step those of the monitor that stays, after a refused start 0.
unfoldable pub stepped_numbers : Stepped → List ℕ
stepped_numbers r = monitor_numbers (outcome_number r.outcome) r.monitor

-- the state after a call that gave r; "its window unchanged" where it is refused (SPEC 6.2)
unfoldable pub kept_over : Stepped → List ℕ → List ℕ
kept_over r s = on_answer (outcome_answer r.outcome) (λ _. monitor_then monitor_kind r.monitor (drop monitor_size s)) λ _ _. s

-- what storing it leaves
pub record KeepsStep (r : Stepped) (entry exit : List ℕ) : Type 0 where
  pub bytes : exit ≡ kept_over r entry
  pub back : outcome_answer r.outcome ≡ value tt → (get_or exit 0 0 ≡ monitor_kind) × (monitor_in exit ≡ r.monitor)

-- There is no monitor after a refused start: both marks are 0.
abbrev pub refused_start : List ℕ
refused_start = header_malformed ∷ 0 ∷ 0 ∷ 0 ∷ []

-- The state of the monitor after the letters of a trace.
pub record HoldsMonitor (ρ : Trace) (s : List ℕ) : Type 0 where
  pub kind : get_or s 0 0 ≡ monitor_kind
  pub monitors : Monitors ρ (monitor_in s)

pub record StartsMonitor (word : ℕ) (entry answer exit answer' : List ℕ) : Type 0 where
  -- no room for the numbers: nothing is done
  pub short : length answer < step_count → (exit ≡ entry) × (answer' ≡ answer)
  -- no room for a monitor
  pub none : step_count ≤ length answer → length entry < monitor_size → (exit ≡ entry) × (answer' ≡ no_state_numbers ++ drop step_count answer)
  pub started : step_count ≤ length answer → monitor_size ≤ length entry
      → (exit ≡ kept_over (start_of word) entry) × (answer' ≡ stepped_numbers (start_of word) ++ drop step_count answer)
  -- a header's word: the numbers are those of the monitor in the state
  pub holds : step_count ≤ length answer → monitor_size ≤ length entry → (h : Header) → HeaderFits first_edition h
      → header_word first_edition h ≡ word
      → HoldsMonitor (begin h) exit × (answer' ≡ monitor_numbers 0 (monitor_in exit) ++ drop step_count answer)
  -- "it refuses a header by 3" (SPEC 6.1): no header has that word
  pub refused : step_count ≤ length answer → monitor_size ≤ length entry → ((h : Header) → HeaderFits first_edition h → header_word first_edition h ≡ word → ⊥)
      → (exit ≡ entry) × (answer' ≡ refused_start ++ drop step_count answer)

pub record StepsMonitor (word : ℕ) (entry answer exit answer' : List ℕ) : Type 0 where
  pub short : length answer < step_count → (exit ≡ entry) × (answer' ≡ answer)
  -- no monitor's state
  pub none : step_count ≤ length answer → holds_state monitor_kind monitor_size entry ≡ false
      → (exit ≡ entry) × (answer' ≡ no_state_numbers ++ drop step_count answer)
  pub stepped : step_count ≤ length answer → holds_state monitor_kind monitor_size entry ≡ true
      → (exit ≡ kept_over (advance (monitor_in entry) word) entry) × (answer' ≡ stepped_numbers (advance (monitor_in entry) word) ++ drop step_count answer)
  -- a letter's word: the numbers are those of the monitor in the state afterwards
  pub holds : step_count ≤ length answer → monitor_size ≤ length entry → (ρ : Trace) → HoldsMonitor ρ entry → (a : Letter) → Fits (state ρ).header a
      → letter_word first_edition (state ρ).header a ≡ word
      → HoldsMonitor (ρ ▸ a) exit × (answer' ≡ monitor_numbers 0 (monitor_in exit) ++ drop step_count answer)
  -- "it refuses a letter by 4, place 0, its window unchanged" (SPEC 6.2): no letter has that word
  pub refused : step_count ≤ length answer → monitor_size ≤ length entry → (ρ : Trace) → HoldsMonitor ρ entry
      → ((a : Letter) → Fits (state ρ).header a → letter_word first_edition (state ρ).header a ≡ word → ⊥)
      → (exit ≡ entry) × (answer' ≡ monitor_numbers letter_malformed (monitor_in entry) ++ drop step_count answer)

-- ---- a number of the monitor's window

-- how many numbers such a call answers
abbrev pub asked_count : ℕ
asked_count = 2

-- The number that a window has, and when a number is that of a state.
pub record AsksMonitor (number : Window → ℕ) (NumberOf : State → ℕ → Type 0) (entry answer answer' : List ℕ) : Type 0 where
  pub short : length answer < asked_count → answer' ≡ answer
  -- no monitor's state
  pub none : asked_count ≤ length answer → holds_state monitor_kind monitor_size entry ≡ false → answer' ≡ no_state ∷ 0 ∷ drop asked_count answer
  pub asked : asked_count ≤ length answer → holds_state monitor_kind monitor_size entry ≡ true
      → answer' ≡ 0 ∷ number (monitor_in entry).window ∷ drop asked_count answer
  -- the number is that of the longest coherent beginning of the letters taken (SPEC 5.7, 5.8, 6.2)
  pub means : asked_count ≤ length answer → monitor_size ≤ length entry → (ρ π : Trace) → HoldsMonitor ρ entry → Longest ρ π
      → (told : ℕ) × (answer' ≡ 0 ∷ told ∷ drop asked_count answer) × NumberOf (state π) told

-- the unequal pairs by the word
abbrev pub AsksUnequal : List ℕ → List ℕ → List ℕ → Type 0
AsksUnequal = AsksMonitor (λ w. unequal_word registers w 0) WordOfState

-- how many classes there are: "with an operation that answers the stored one" (document 02, 6)
abbrev pub AsksClasses : List ℕ → List ℕ → List ℕ → Type 0
AsksClasses = AsksMonitor (λ w. w.classes) ClassCount

-- ---- bytes in parts of any lengths

-- The state of the run over these bytes.
pub record HoldsStream (bytes s : List ℕ) : Type 0 where
  pub kind : get_or s 0 0 ≡ stream_kind
  pub streams : Streams bytes (stream_in s)

pub record StartsStream (entry answer exit answer' : List ℕ) : Type 0 where
  pub short : length answer < 1 → (exit ≡ entry) × (answer' ≡ answer)
  pub none : 1 ≤ length answer → length entry < stream_size → (exit ≡ entry) × (answer' ≡ no_state ∷ drop 1 answer)
  pub started : 1 ≤ length answer → stream_size ≤ length entry
      → (exit ≡ stream_then stream_kind empty_stream (drop stream_size entry)) × (answer' ≡ 0 ∷ drop 1 answer)
  pub holds : 1 ≤ length answer → stream_size ≤ length entry → HoldsStream [] exit

pub record PushesStream (bytes entry answer exit answer' : List ℕ) : Type 0 where
  pub short : length answer < 1 → (exit ≡ entry) × (answer' ≡ answer)
  pub none : 1 ≤ length answer → holds_state stream_kind stream_size entry ≡ false → (exit ≡ entry) × (answer' ≡ no_state ∷ drop 1 answer)
  pub pushed : 1 ≤ length answer → holds_state stream_kind stream_size entry ≡ true
      → (exit ≡ stream_then stream_kind (pushed_all (stream_in entry) bytes) (drop stream_size entry)) × (answer' ≡ 0 ∷ drop 1 answer)
  pub holds : 1 ≤ length answer → stream_size ≤ length entry → (earlier : List ℕ) → HoldsStream earlier entry → HoldsStream (earlier ++ bytes) exit

pub record FinishesStream (entry answer answer' : List ℕ) : Type 0 where
  pub short : length answer < run_count → answer' ≡ answer
  pub none : run_count ≤ length answer → holds_state stream_kind stream_size entry ≡ false → answer' ≡ no_state_numbers ++ drop run_count answer
  pub finished : run_count ≤ length answer → holds_state stream_kind stream_size entry ≡ true
      → answer' ≡ run_numbers (run_answer (finished_of (stream_in entry))) ++ drop run_count answer
  -- demand 2 for all the bytes together (SPEC 6.4)
  pub meets : (bytes : List ℕ) → HoldsStream bytes entry → letter_count first_edition bytes ≤ last
      → Demand2 bytes (run_answer (finished_of (stream_in entry)))
  -- of more letters than 64 bits can number, those have the last number (SPEC 6.5)
  pub beyond : (bytes : List ℕ) → HoldsStream bytes entry → (exact : Answer (ℕ × ℕ)) → Demand2 bytes exact
      → run_answer (finished_of (stream_in entry)) ≡ capped_answer exact
