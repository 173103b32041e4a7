-- What each call of the monitor means for the trace taken so far, and each call of the stream for the bytes taken so far: what the contracts promise (SPEC 6).
use Rattle.std.specs.Prelude.{◌≡◌, ◌↔◌, ℕ, suc, ◌≤◌, List, [], ◌++◌, T}
use Rattle.letters.specs.declared.Header.{Header}
use Rattle.letters.specs.declared.Letter.{Letter}
use Rattle.letters.specs.Letters.{Fits}
use Rattle.letters.specs.Answers.{Answer, value, refusal}
use Rattle.letters.specs.Editions.{first_edition}
use Rattle.letters.specs.Letters.{HeaderFits}
use Rattle.letters.specs.Words.{header_word, letter_word}
use Rattle.traces.specs.Reading.{letter_count}
use Rattle.letters.specs.RefusalNumbers.{header_malformed, letter_malformed}
use Rattle.semantics.specs.Terms.{Trace, begin, ◌▸◌, state}
use Rattle.semantics.specs.Models.{Feasible}
use Rattle.semantics.specs.Coherence.{Coherent}
use Rattle.semantics.specs.Judgement.{size}
use Rattle.semantics.specs.Judgement.{Longest}
use Rattle.streaming.specs.Monitor.{outcome_answer, stepped, start_of, advance}
use Rattle.streaming.specs.Following.{Follows}
use Rattle.streaming.specs.Run.{run_answer, last, capped, begun_run, taken_run}
use Rattle.streaming.specs.Following.{RunFollows}
use Rattle.streaming.specs.Stream.{empty_stream, finished_of, pushed_all}
use Rattle.streaming.specs.Demand2.{Demand2}
use Rattle.streaming.specs.Run.{capped_answer}
use Rattle.streaming.specs.declared.Monitor.{Monitor}
use Rattle.streaming.specs.Outcome as outcome
use Rattle.streaming.specs.declared.Run.{Run}
use Rattle.streaming.specs.Outcome.{Stepped}
use Rattle.streaming.specs.declared.Stream.{Stream}
use Rattle.streaming.specs.declared.RunAnswer.{RunAnswer}
use Rattle.streaming.specs.declared.RunAnswer.TheVariants.{Refused}

-- ---- a letter a call

-- The monitor after the letters of a trace.
pub record Monitors (ρ : Trace) (m : Monitor) : Type 0 where
  pub fits : HeaderFits first_edition (state ρ).header
  -- it holds the window of the longest coherent beginning
  pub follows : Follows ρ m
  -- it runs exactly if the trace is coherent
  pub running : T m.running ↔ Coherent ρ
  -- "An incoherent letter only stops the monitor": its mark is that of the longest coherent beginning (SPEC 6.2)
  pub infeasible : (π : Trace) → Longest ρ π → T m.window.infeasible ↔ (¬ Feasible (state π))

-- a monitor that refuses every letter
abbrev pub RefusesAll : Monitor → Type 0
RefusesAll m = (letter : ℕ) → advance m letter ≡ stepped (outcome.Refused letter_malformed) m

-- What a start leaves: "it refuses a header by 3" (SPEC 6.1).
pub record Starts (word : ℕ) (r : Stepped) : Type 0 where
  pub computed : r ≡ start_of word
  pub taken : (h : Header) → HeaderFits first_edition h → header_word first_edition h ≡ word
      → (outcome_answer r.outcome ≡ value tt) × Monitors (begin h) r.monitor
  -- the monitor that comes with a refusal refuses every letter
  pub refused : ((h : Header) → HeaderFits first_edition h → header_word first_edition h ≡ word → ⊥)
      → (outcome_answer r.outcome ≡ refusal header_malformed 0) × RefusesAll r.monitor

-- What a step leaves: "it refuses a letter by 4, place 0, its window unchanged" (SPEC 6.2).
pub record Advances (m : Monitor) (word : ℕ) (r : Stepped) : Type 0 where
  pub computed : r ≡ advance m word
  pub taken : (ρ : Trace) → Monitors ρ m → (a : Letter) → Fits (state ρ).header a → letter_word first_edition (state ρ).header a ≡ word
      → (outcome_answer r.outcome ≡ value tt) × Monitors (ρ ▸ a) r.monitor
  pub refused : (ρ : Trace) → Monitors ρ m → ((a : Letter) → Fits (state ρ).header a → letter_word first_edition (state ρ).header a ≡ word → ⊥)
      → (outcome_answer r.outcome ≡ refusal letter_malformed 0) × (r.monitor ≡ m)

-- ---- the run, which numbers the letters

-- What the run's beginning leaves.
pub record RunBegins (word : ℕ) (r : Run) : Type 0 where
  pub computed : r ≡ begun_run word
  pub taken : (h : Header) → HeaderFits first_edition h → header_word first_edition h ≡ word → RunFollows (begin h) r
  pub refused : ((h : Header) → HeaderFits first_edition h → header_word first_edition h ≡ word → ⊥) → run_answer r.verdict ≡ refusal header_malformed 0

-- What the next letter's word leaves: "A letter that is not well formed ends the reading with 4 and its number, from 1." (SPEC 6.3, 11.2)
pub record RunTakes (run : Run) (word : ℕ) (r : Run) : Type 0 where
  pub computed : r ≡ taken_run run word
  pub taken : (ρ : Trace) → HeaderFits first_edition (state ρ).header → RunFollows ρ run → (a : Letter) → Fits (state ρ).header a
      → letter_word first_edition (state ρ).header a ≡ word → RunFollows (ρ ▸ a) r
  pub refused : (ρ : Trace) → HeaderFits first_edition (state ρ).header → RunFollows ρ run
      → ((a : Letter) → Fits (state ρ).header a → letter_word first_edition (state ρ).header a ≡ word → ⊥)
      → run_answer r.verdict ≡ refusal letter_malformed (capped (suc (size ρ)))
  pub ended : (number place : ℕ) → run.verdict ≡ Refused number place → r ≡ run

-- ---- bytes in parts of any lengths

-- The stream after these bytes.
pub record Streams (bytes : List ℕ) (s : Stream) : Type 0 where
  pub pushed : s ≡ pushed_all empty_stream bytes

-- What a stream before its first byte is.
pub record StreamStarts (r : Stream) : Type 0 where
  pub computed : r ≡ empty_stream
  pub streams : Streams [] r

-- What further bytes leave.
pub record StreamPushes (s : Stream) (bytes : List ℕ) (r : Stream) : Type 0 where
  pub computed : r ≡ pushed_all s bytes
  pub streams : (earlier : List ℕ) → Streams earlier s → Streams (earlier ++ bytes) r

-- What the answer is: demand 2 for all the bytes together (SPEC 6.4).
pub record StreamFinishes (s : Stream) (r : RunAnswer) : Type 0 where
  pub computed : r ≡ finished_of s
  pub meets : (bytes : List ℕ) → Streams bytes s → letter_count first_edition bytes ≤ last → Demand2 bytes (run_answer r)
  -- of more letters than 64 bits can number, those have the last number (SPEC 6.5)
  pub beyond : (bytes : List ℕ) → Streams bytes s → (exact : Answer (ℕ × ℕ)) → Demand2 bytes exact → run_answer r ≡ capped_answer exact
