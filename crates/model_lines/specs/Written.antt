-- The line of an answer in a lent buffer.
use Rattle.std.specs.Prelude.{Ok, Err, ℕ, ◌≤◌, List, length}
use Rattle.model_writer.specs.declared.Shown.TheVariants.{Model, Infeasible}
use Rattle.model_writer.specs.Answer.{ShowResult}
use Rattle.text.specs.Appending.{Appended}
use Rattle.model_lines.specs.Prints.{line_of, most_model_line_bytes}

-- No model is longer.
abbrev pub most_model : ℕ
most_model = 5180

-- A model that is answered lies in the front of so many bytes, which are not too many.
abbrev pub ModelWithin : ShowResult → ℕ → Type 0
ModelWithin (Ok (Model n)) room = (n ≤ room) × (room ≤ most_model)
ModelWithin (Ok (Infeasible k)) room = Unit {0}
ModelWithin (Err r) room = Unit {0}

-- The line of an answer was written.
pub record WroteLine (entry : List ℕ) (r : ShowResult) (out : List ℕ) (size : ℕ) (exit : List ℕ) : Type 0 where
  pub few : length (line_of r out) ≤ most_model_line_bytes
  pub appended : Appended entry 0 (line_of r out) exit size
