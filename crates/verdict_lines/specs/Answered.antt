-- What the verdict program makes of a file (SPEC 12.2, 12.5).
use Rattle.std.specs.Prelude.{◌≡◌, List, ℕ, ◌+◌, length, Result}
use Rattle.grammar.specs.Limits.{longest_text}
use Rattle.files.specs.declared.Input.{Input}
use Rattle.files.specs.declared.Unread.{Unread}
use Rattle.files.specs.Input.{Received}
use Rattle.files.specs.Lines.{known, Answers}
use Rattle.verdict_lines.specs.Prints.{PrintsVerdictLines}

-- A file is read to its end, or one byte more of it than a macro may have.
abbrev pub most_text_read : ℕ
most_text_read = longest_text + 1

-- The lines are those of what was read; where reading failed nothing is answered. What the system's reads give is free.
pub record AnswersMacroInput (entry : List ℕ) (r : Result ℕ Unread) (exit : List ℕ) : Type 0 where
  pub space : List ℕ
  pub room : most_text_read ≡ length space
  pub input : Input
  pub text : List ℕ
  pub received : Received space input text
  pub answers : Answers PrintsVerdictLines (known input text) entry r exit
