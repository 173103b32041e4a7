-- The verdict on a macro as numbers in a lent slice: refusal, place, verdict, pairs, letters of the first event's execution (SPEC 10.7).
-- Document 01: "Where an answer is an enum, a definition gives this paper's number and values for each of its cases."
use Rattle.std.specs.Prelude.{◌≡◌, ℕ, ◌≤◌, ◌<◌, List, [], ◌∷◌, ◌++◌, length, drop}
use Rattle.semantics.specs.Models.{Feasible}
use Rattle.verdict_theory.specs.Verdict.{VerdictAnswer, pass, fail, incoherent, refused}
use Rattle.verdict_theory.specs.Demand3.{Demand3}

-- How many numbers the verdict is.
abbrev pub verdict_count : ℕ
verdict_count = 5

-- The third number is 0 for pass, 1 for fail, 2 for incoherent; on a refusal the numbers behind its place are 0.
unfoldable pub verdict_numbers : VerdictAnswer → List ℕ
verdict_numbers (pass pairs) = 0 ∷ 0 ∷ 0 ∷ pairs ∷ 0 ∷ []
verdict_numbers (fail pairs letters) = 0 ∷ 0 ∷ 1 ∷ pairs ∷ letters ∷ []
verdict_numbers (incoherent pairs letters) = 0 ∷ 0 ∷ 2 ∷ pairs ∷ letters ∷ []
verdict_numbers (refused number place) = number ∷ place ∷ 0 ∷ 0 ∷ 0 ∷ []

-- `table`, `output` and `answer` are lent; `table'`, `output'` and `answer'` are what they hold afterwards.
pub record Judging (text table output answer table' output' answer' : List ℕ) : Type 0 where
  -- An answer that has no room for the numbers: nothing is done.
  pub short : length answer < verdict_count → (table' ≡ table) × (output' ≡ output) × (answer' ≡ answer)
  -- Else demand 3 holds of an answer whose numbers stand over the front of the slice. What the output's bytes are then read back as, for any table:
  -- `ReadBack.read_back` of crate `verdict_lines`.
  pub judged : verdict_count ≤ length answer
      → (a : VerdictAnswer) × Demand3 Feasible text table output a table' output' × (answer' ≡ verdict_numbers a ++ drop verdict_count answer)
