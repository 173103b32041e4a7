-- What the whole-trace engine answers (SPEC 7.1; document 01; questions of SPEC 11.2: 1, 2, 3, 5, 4, then 6 where a due model does not fit).
use Rattle.std.specs.Prelude.{◌≡◌, Result, Ok, Err, List, ◌++◌, reverse, ℕ, ◌≤◌, ◌<◌, eqb, leb, length, take, drop}
use Rattle.base.specs.Choice.{pick}
use Rattle.letters.specs.declared.Header.{Header}
use Rattle.letters.specs.declared.Letter.{Letter}
use Rattle.letters.specs.declared.reasons.Refused.{Refused}
use Rattle.letters.specs.Reasons.{number_of}
use Rattle.letters.specs.Editions.{first_edition, most_letters}
use Rattle.letters.specs.Letters.{HeaderFits}
use Rattle.traces.specs.Reading.{TraceReading, trace, reading}
use Rattle.traces.specs.ReadingParts.{reading_within}
use Rattle.semantics.specs.Terms.{State, state, trace_of}
use Rattle.semantics.specs.Facts.{WellFormed}
use Rattle.semantics.specs.Judgement.{FailsAt}
use Rattle.semantics.specs.Models.{Model, Satisfies, Feasible}
use Rattle.semantics.specs.Tables.{Tables, Describes}
use Rattle.letters.specs.RefusalNumbers.{output_too_small}
use Rattle.semantics.specs.Numbering.{IsShown}
use Rattle.semantics.specs.ShownTables.{tables_of}
use Rattle.semantics.specs.PackedTables.{pack_tables}
use Rattle.semantics.specs.TablesRead.{read_tables}
use Rattle.semantics.specs.FirstLetters.{first_infeasible}
use Rattle.model_writer.specs.declared.Shown.{Shown}
use Rattle.model_writer.specs.declared.Shown.TheVariants as shown

-- A model of so many bytes; the first infeasible letter; a refusal, its number and place.
pub data ModelAnswer : Type 0 where
  model : ℕ → ModelAnswer
  infeasible : ℕ → ModelAnswer
  refusal : ℕ → ℕ → ModelAnswer

-- what the code answers
abbrev pub ShowResult : Type 0
ShowResult = Result Shown Refused

abbrev pub shown_answer : ShowResult → ModelAnswer
shown_answer (Ok (shown.Model n)) = ModelAnswer.model n
shown_answer (Ok (shown.Infeasible k)) = ModelAnswer.infeasible k
shown_answer (Err r) = ModelAnswer.refusal (number_of r.reason) r.place

-- The bytes of the shown model of a state.
unfoldable pub model_bytes : State → List ℕ
model_bytes σ = pack_tables first_edition σ.header (tables_of σ)

-- "Does a due model fit the output? 6." An exact fit is one (SPEC 11.2).
abbrev pub fitted : List ℕ → ℕ → ModelAnswer
fitted bytes room = pick (leb (length bytes) room) (λ _. ModelAnswer.model (length bytes)) λ _. ModelAnswer.refusal output_too_small 0

-- "Refused calls write no output; bytes past a written answer stay." (SPEC 11.5)
abbrev pub laid_in : List ℕ → List ℕ → List ℕ
laid_in bytes out = pick (leb (length bytes) (length out)) (λ _. bytes ++ drop (length bytes) out) λ _. out

-- "An infeasible trace gets the first letter at which it is so, and no output. For a feasible trace, coherent or not:" the model, where it fits (SPEC 7.1).
unfoldable pub answer_to : TraceReading → ℕ → ModelAnswer
answer_to (TraceReading.refused number place) room = ModelAnswer.refusal number place
answer_to (trace h ls) room = pick (eqb (first_infeasible (trace_of h ls)) 0) (λ _. fitted (model_bytes (state (trace_of h ls))) room)
    λ _. ModelAnswer.infeasible
    (first_infeasible (trace_of h ls))

unfoldable pub output_after : TraceReading → List ℕ → List ℕ
output_after (TraceReading.refused number place) out = out
output_after (trace h ls) out = pick (eqb (first_infeasible (trace_of h ls)) 0) (λ _. laid_in (model_bytes (state (trace_of h ls))) out) λ _. out

-- ---- what the answer is worth, without a way to compute it

-- The bytes are a well-formed trace of at most 1,024 letters.
pub record IsTrace (s : List ℕ) (h : Header) (letters : List Letter) : Type 0 where
  pub read : reading first_edition s ≡ trace h letters
  pub few : length letters ≤ most_letters
  pub header : HeaderFits first_edition h
  pub formed : WellFormed (trace_of h letters)

-- The tables are those that SPEC 7 asks for; there are no others (`tables-unique`).
abbrev pub ShownFor : Header → List Letter → Tables → Type 0
ShownFor h letters t = IsShown h.registers (reverse (state (trace_of h letters)).terms) (state (trace_of h letters)).equals t

-- The bytes read back to these tables, and all tests of the letters hold in the model that they describe.
pub record ModelIn (bytes : List ℕ) (h : Header) (letters : List Letter) : Type 0 where
  pub is_shown : ShownFor h letters (read_tables first_edition h bytes)
  pub model : Model
  pub described : Describes (read_tables first_edition h bytes) model
  pub satisfies : Satisfies model (state (trace_of h letters)).equals (state (trace_of h letters)).unequals

-- A model is answered: it stands in the first n bytes of the output, and the bytes behind it stay (SPEC 7.1, 11.5).
pub record ModelShown (s out : List ℕ) (n : ℕ) (out' : List ℕ) : Type 0 where
  pub header : Header
  pub letters : List Letter
  pub is_trace : IsTrace s header letters
  pub fits : n ≤ length out
  pub holds : ModelIn (take n out') header letters
  pub behind : drop n out' ≡ drop n out

-- A letter is answered: it is the first at which the trace is infeasible, and no model satisfies all tests of the trace (SPEC 3.7, 7.1).
pub record LetterNamed (s out : List ℕ) (k : ℕ) (out' : List ℕ) : Type 0 where
  pub header : Header
  pub letters : List Letter
  pub is_trace : IsTrace s header letters
  pub first : FailsAt (λ π. Feasible (state π)) (trace_of header letters) k
  pub none : ¬ Feasible (state (trace_of header letters))
  pub kept : out' ≡ out

-- A refusal: the bytes are no such trace, by questions 1 to 5; or the model that is due does not fit the output (SPEC 11.2).
pub data RefusedFor (s out : List ℕ) : ℕ → ℕ → Type 0 where
  unread : {number place : ℕ} → reading_within most_letters first_edition s ≡ TraceReading.refused number place → RefusedFor s out number place
  unfit : {h : Header} {letters : List Letter} {t : Tables} → IsTrace s h letters → Feasible (state (trace_of h letters)) → ShownFor h letters t
      → length out < length (pack_tables first_edition h t) → RefusedFor s out output_too_small 0

-- What an answer means, with the output out before and out' after (SPEC 7.1).
abbrev pub Means : (s out : List ℕ) → ModelAnswer → (out' : List ℕ) → Type 0
Means s out (ModelAnswer.model n) out' = ModelShown s out n out'
Means s out (ModelAnswer.infeasible k) out' = LetterNamed s out k out'
Means s out (ModelAnswer.refusal number place) out' = RefusedFor s out number place × (out' ≡ out)

-- The bytes s are answered, with the output out before and out' after. The two equations settle the answer and the output; what they mean follows.
pub record Showed (s out : List ℕ) (r : ShowResult) (out' : List ℕ) : Type 0 where
  pub answer : shown_answer r ≡ answer_to (reading_within most_letters first_edition s) (length out)
  pub output : out' ≡ output_after (reading_within most_letters first_edition s) out
  pub means : Means s out (shown_answer r) out'
