-- What the program `display` makes of a file (SPEC 12.5, 12.7).
use Rattle.std.specs.Prelude.{◌≡◌, List, ℕ, ◌+◌, length, Result}
use Rattle.files.specs.declared.Input.{Input}
use Rattle.files.specs.Input.{Received}
use Rattle.files.specs.Lines.{known}
use Rattle.display_lines.specs.declared.NotJudged.{NotJudged}
use Rattle.display_lines.specs.Prints.{most_trace_bytes, DisplaysKnown}

-- A file is read to its end, or one byte more of it than is judged.
abbrev pub most_display_read : ℕ
most_display_read = most_trace_bytes + 1

-- The lines are those of what was read. What the system's reads give is free.
pub record DisplaysInput (entry : List ℕ) (r : Result ℕ NotJudged) (exit : List ℕ) : Type 0 where
  pub space : List ℕ
  pub room : most_display_read ≡ length space
  pub input : Input
  pub buffer : List ℕ
  pub received : Received space input buffer
  pub answers : DisplaysKnown (known input buffer) entry r exit
