-- What follows from the definitions of specs/Answered.antt.
use mathlib.Core.Path.{◌≡◌}
use mathlib.Core.List.{List}
use Prim.Native.Nat.{ℕ, ◌≤◌}
use lib.ListN.{length, take}
use Rattle.std.specs.Prelude.{Result, Ok}
use Rattle.files.specs.declared.Unread.{Unread}
use Rattle.files.specs.Lines.{known}
use Rattle.files.proofs.Theory.LinesLaws.{answers_written}
use Rattle.verdict_lines.specs.Prints.{PrintsVerdictLines}
use Rattle.verdict_lines.proofs.Theory.PrintsLaws.{prints_within, prints_length}
use Rattle.verdict_lines.specs.Answered.{AnswersMacroInput}

module _ (entry exit : List ℕ) (r : Result ℕ Unread) (x : AnswersMacroInput entry r exit) {size : ℕ} (e : r ≡ Ok size) where
  written : (s : List ℕ) × PrintsVerdictLines s entry size exit
  written = answers_written PrintsVerdictLines (known x.input x.text) entry exit r size e x.answers

  pub written_within : size ≤ length exit
  written_within = prints_within written.1

  pub written_length : size ≡ length (take size exit)
  written_length = prints_length written.1
