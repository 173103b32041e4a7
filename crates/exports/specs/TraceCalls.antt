-- What the calls that write and read traces leave: every number of the answer and every byte of the output.
use Rattle.std.specs.Prelude.{◌≡◌, ℕ, ◌≤◌, ◌<◌, List, [], ◌∷◌, ◌++◌, length, drop}
use Rattle.letters.specs.declared.Header.{Header}
use Rattle.letters.specs.Answers.{Answer, value, refusal}
use Rattle.letters.specs.Editions.{first_edition}
use Rattle.traces.specs.Reading.{reading}
use Rattle.traces.specs.Writing.{unpacking, written_length, written_over}
use Rattle.traces.specs.Unpacking.{unpacked_count, unpacked_over}

abbrev pub header_with : ℕ → ℕ → ℕ → Header
header_with registers functions binary = record { registers = registers; functions = functions; binary = binary }

-- How many numbers the writing and the reading of a trace answer.
abbrev pub written_count : ℕ
written_count = 3

abbrev pub trace_read_count : ℕ
trace_read_count = 6

-- refusal, place, bytes of the trace
unfoldable pub written_numbers : Answer ℕ → List ℕ
written_numbers (value bytes) = 0 ∷ 0 ∷ bytes ∷ []
written_numbers (refusal number place) = number ∷ place ∷ 0 ∷ []

-- refusal, place, registers, functions, mask of the two-argument functions, letters
unfoldable pub read_numbers : Answer (Header × ℕ) → List ℕ
read_numbers (value (h, n)) = 0 ∷ 0 ∷ h.registers ∷ h.functions ∷ h.binary ∷ n ∷ []
read_numbers (refusal number place) = number ∷ place ∷ 0 ∷ 0 ∷ 0 ∷ 0 ∷ []

-- Where the answer has room for the numbers, the trace is written as the writer does; else nothing is done.
pub record Writes (h : Header) (fields out answer out' answer' : List ℕ) : Type 0 where
  pub short : length answer < written_count → (out' ≡ out) × (answer' ≡ answer)
  pub written : written_count ≤ length answer
      → (out' ≡ written_over first_edition out (unpacking first_edition h fields))
      × (answer' ≡ written_numbers (written_length first_edition (length out) (unpacking first_edition h fields)) ++ drop written_count answer)

abbrev pub WritesWith : ℕ → ℕ → ℕ → (fields out answer out' answer' : List ℕ) → Type 0
WritesWith registers functions binary fields out answer out' answer' = Writes (header_with registers functions binary) fields out answer out' answer'

-- Where the answer has room for the numbers, the trace is read and its letters are unpacked; else nothing is done.
pub record ReadsTrace (trace out answer out' answer' : List ℕ) : Type 0 where
  pub short : length answer < trace_read_count → (out' ≡ out) × (answer' ≡ answer)
  pub read : trace_read_count ≤ length answer
      → (out' ≡ unpacked_over out (reading first_edition trace))
      × (answer' ≡ read_numbers (unpacked_count (length out) (reading first_edition trace)) ++ drop trace_read_count answer)
