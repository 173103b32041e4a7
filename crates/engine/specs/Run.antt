-- The engine's run over the letters of a trace.
use Rattle.std.specs.Prelude.{◌≡◌, List, ◌++◌, ℕ, ◌+◌, ◌-◌, ◌*◌, ◌≤◌, length, get_or, drop, Option, Some, None, Result, Ok, Err}
use Rattle.base.specs.Each.{each_up_to}
use Rattle.letters.specs.declared.Header.{Header}
use Rattle.letters.specs.declared.Letter.{Letter}
use Rattle.letters.specs.Editions.{first_edition, most_letters}
use Rattle.letters.specs.Answers.{value}
use Rattle.traces.specs.Reading.{TraceReading, trace, beginning, letter_count, letter_in, chunks, letters_from, letters_of}
use Rattle.semantics.specs.Terms.{state, trace_of}
use Rattle.semantics.specs.Facts.{WellFormed}
use Rattle.closure.specs.Limits.{most_terms}
use Rattle.letters.specs.RefusalNumbers.{letter_malformed}
use Rattle.semantics.specs.Models.{Feasible}
use Rattle.semantics.specs.Judgement.{FailsAt}
use Rattle.semantics.specs.FirstLetters.{first_infeasible}
use Rattle.letters.specs.declared.reasons.Reason.TheVariants.{LetterMalformed}
use Rattle.letters.specs.declared.reasons.Refused.{Refused}
use Rattle.closure.specs.declared.Terms.{Terms}
use Rattle.engine.specs.Engine.{Engine, Computed}
use Rattle.engine.specs.declared.Progress.{Progress}

-- Questions 1, 2, 3 and 5 are answered: the bytes have this header and this number of letters, at most 1,024.
pub record Begun (s : List ℕ) (h : Header) (count : ℕ) : Type 0 where
  pub header : beginning first_edition s ≡ value h
  pub letters : count ≡ letter_count first_edition s
  pub few : count ≤ most_letters

-- What the letters from number k on, counted from 0, are read as.
abbrev pub reading_from : (s : List ℕ) (h : Header) (count k : ℕ) → TraceReading
reading_from s h count k = letters_from (letter_in first_edition h) h (k + 1) (chunks first_edition.bytes (count - k) (drop (first_edition.bytes * (k + 1)) s))

-- Some letters, and then what is read.
abbrev pub behind : List Letter → TraceReading → TraceReading
behind ls (trace h ms) = trace h (ls ++ ms)
behind ls (TraceReading.refused number place) = TraceReading.refused number place

-- An array of zeros for the engine.
pub record Blank (l : List ℕ) : Type 0 where
  pub long : length l ≡ most_terms
  pub zero : (k : ℕ) → get_or l k 0 ≡ 0

abbrev pub BlankTerms : Terms → Type 0
BlankTerms t = Blank t.function × Blank t.first × Blank t.second × Blank t.representative

-- The first entries of both are their own numbers, and the others stay.
pub record Began (representative value : List ℕ) (registers : ℕ) (representative' value' : List ℕ) : Type 0 where
  pub classes : representative' ≡ each_up_to (λ i _. i) registers representative
  pub values : value' ≡ each_up_to (λ i _. i) registers value

-- After k letters, none of which made the trace infeasible.
pub record Running (s : List ℕ) (h : Header) (count : ℕ) (function first second representative head link value left right : List ℕ)
    (registers n m p k : ℕ) : Type 0 where
  pub letters : List Letter
  pub long : length letters ≡ k
  pub rest : letters_of first_edition h s ≡ behind letters (reading_from s h count k)
  pub formed : WellFormed (trace_of h letters)
  pub engine : Engine (state (trace_of h letters)) function first second representative head link value left right registers n m p k
  pub feasible : Feasible (state (trace_of h letters))

abbrev pub RunningIn : (s : List ℕ) (h : Header) (count : ℕ) → Terms → Progress → ℕ → Type 0
RunningIn s h count t p k = Running s h count t.function t.first t.second t.representative p.index.head p.index.link p.value p.tests.left p.tests.right
    t.registers t.count p.tests.count p.tests.parted k

-- What a run answers: the first letter that is not well formed; the first infeasible letter, where the letters after it are still to be read;
-- or that all are feasible, and the arrays then hold the n computed terms and their classes.
pub data Ran (s : List ℕ) (h : Header) (count : ℕ) (function first second representative : List ℕ) (n : ℕ) : Result (Option ℕ) Refused → Type 0 where
  malformed : (k : ℕ) → letters_of first_edition h s ≡ TraceReading.refused letter_malformed k
      → Ran s h count function first second representative n (Err (record { reason = LetterMalformed; place = k }))
  infeasible : (k : ℕ) (ls : List Letter) → letters_of first_edition h s ≡ behind ls (reading_from s h count k)
      → FailsAt (λ π. Feasible (state π)) (trace_of h ls) k → 1 ≤ k
      → Ran s h count function first second representative n (Ok (Some k))
  feasible : (ls : List Letter) → letters_of first_edition h s ≡ trace h ls → 0 ≡ first_infeasible (trace_of h ls)
      → Computed (state (trace_of h ls)) function first second representative h.registers n
      → Ran s h count function first second representative n (Ok None)

abbrev pub RanTo : (s : List ℕ) (h : Header) (count : ℕ) → Terms → Result (Option ℕ) Refused → Type 0
RanTo s h count t = Ran s h count t.function t.first t.second t.representative t.count

-- What is said of the letters from some number on: all are well formed, or the number of the first that is not, from 1.
pub data RestRead (h : Header) (x : TraceReading) : Option ℕ → Type 0 where
  all_read : (ls : List Letter) → x ≡ trace h ls → RestRead h x None
  broken : (p : ℕ) → 1 ≤ p → x ≡ TraceReading.refused letter_malformed p → RestRead h x (Some p)
