-- What follows from the definitions of specs/Answered.antt.
use mathlib.Core.Path.{◌≡◌, sym}
use mathlib.Core.List.{List}
use Prim.Native.Nat.{ℕ, ◌≤◌}
use native.Mathlib.Omega.{arith}
use lib.ListN.{length, take}
use lib.Seq.{length-take-le}
use Rattle.std.specs.Prelude.{Result, Ok}
use Rattle.files.specs.declared.Unread.{Unread}
use Rattle.files.proofs.Theory.LinesLaws.{answers_written}
use Rattle.text.proofs.Theory.Appending.{appended_length}
use Rattle.model_lines.specs.Prints.{most_model_line_bytes, PrintsModelLine}
use Rattle.model_lines.specs.Answered.{known_trace, AnswersTraceInput}

-- A line that was written lies in the buffer.
module _ (entry exit : List ℕ) (r : Result ℕ Unread) (x : AnswersTraceInput entry r exit) (room : most_model_line_bytes ≡ length entry) {size : ℕ}
    (e : r ≡ Ok size) where
  written : (s : List ℕ) × PrintsModelLine s entry size exit
  written = answers_written PrintsModelLine (known_trace x.input x.behind x.buffer) entry exit r size e x.answers

  pub written_within : size ≤ length exit
  written_within = let p = written.1 in omega (arith, p.few, p.appended.place, appended_length p.appended, room)

  pub written_length : size ≡ length (take size exit)
  written_length = sym (length-take-le size exit written_within)
