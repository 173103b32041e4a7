-- Demand 2: what the run over the bytes of a trace answers, all in one place (SPEC 6.3).
use Rattle.std.specs.Prelude.{◌≡◌, ℕ, List}
use Rattle.letters.specs.declared.Header.{Header}
use Rattle.letters.specs.declared.Letter.{Letter}
use Rattle.letters.specs.Answers.{Answer, value, refusal}
use Rattle.letters.specs.Editions.{first_edition}
use Rattle.traces.specs.Reading.{trace, TraceReading, reading}
use Rattle.semantics.specs.Terms.{trace_of}
use Rattle.semantics.specs.Judgement.{Judgement}

pub record Demand2 (bytes : List ℕ) (answer : Answer (ℕ × ℕ)) : Type 0 where
  -- SPEC 11.2; document 01: "At least two bytes? 1. Even length? 2. Header as above? 3. Each letter well formed? A letter that is not
  -- well formed ends the reading with 4 and its number, from 1." All of them are put before anything is judged.
  pub refuses : (number place : ℕ) → reading first_edition bytes ≡ TraceReading.refused number place → answer ≡ refusal number place
  -- SPEC 3.7, 4.6, 6.3: bytes that are read as a trace give the first letter at which the trace is not coherent and the first at which
  -- its longest coherent beginning is not feasible, each 0 for none. "Coherence is judged on infeasible traces too." (SPEC 4.5)
  pub judges : (h : Header) (letters : List Letter) → reading first_edition bytes ≡ trace h letters
      → (incoherent infeasible : ℕ) × Judgement (trace_of h letters) incoherent infeasible × (answer ≡ value (incoherent, infeasible))
