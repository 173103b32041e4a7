-- What the output holds after the model of a trace was asked for, behind the place of the trace.
use Rattle.std.specs.Prelude.{◌≡◌, Bool, true, false, List, ◌++◌, ℕ, length, take, drop}
use Rattle.model_writer.specs.Answer.{ShowResult, shown_answer, ModelAnswer, Showed}

-- The trace s was shown with the output behind its place. `fits` tells whether a model was written there.
pub record ModelWrittenBehind (s output : List ℕ) (fits : Bool) (output' : List ℕ) : Type 0 where
  pub shown : ShowResult
  pub behind : List ℕ
  pub showed : Showed s (drop (length s) output) shown behind
  pub stands : output' ≡ take (length s) output ++ behind
  pub yes : fits ≡ true → (k : ℕ) × (shown_answer shown ≡ ModelAnswer.model k)
  pub no : fits ≡ false → (k : ℕ) → shown_answer shown ≡ ModelAnswer.model k → ⊥
