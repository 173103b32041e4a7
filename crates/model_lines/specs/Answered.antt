-- What the model program makes of a file (SPEC 12.4, 12.5).
use Rattle.std.specs.Prelude.{◌≡◌, List, ℕ, ◌+◌, ◌-◌, ◌*◌, ◌%◌, eqb, length, take, Result, Ok, Err}
use Rattle.base.specs.Choice.{pick}
use Rattle.letters.specs.Editions.{first_edition, most_letters}
use Rattle.files.specs.declared.Input.{Input}
use Rattle.files.specs.declared.Input.TheVariants.{Ended, Full, Failed}
use Rattle.files.specs.declared.Unread.{Unread}
use Rattle.files.specs.Input.{Received}
use Rattle.files.specs.Lines.{Known, bytes, unread, Answers}
use Rattle.std.specs.declared.ops.ControlFlow.{ControlFlow}
use Rattle.std.specs.declared.ops.ControlFlow.TheVariants.{Continue, Break}
use Rattle.model_lines.specs.declared.Parity.{Parity}
use Rattle.model_lines.specs.declared.Parity.TheVariants.{Even, Odd}
use Rattle.model_lines.specs.Prints.{PrintsModelLine}

-- A file is read to its end, or one unit more of it than the most letters and a header have.
abbrev pub most_trace_read : ℕ
most_trace_read = first_edition.bytes * (most_letters + 2)

-- Of an odd length, and as good.
abbrev pub odd_read : ℕ
odd_read = most_trace_read - 1

abbrev pub parity_of : ℕ → Parity
parity_of n = pick (eqb (n % 2) 0) (λ _. Even) λ _. Odd

-- What a trace has behind the bytes that fill the buffer: an even or an odd number of bytes; or a read failed, and nothing is known of the
-- trace's end.
abbrev pub Rest : Type 0
Rest = Result Parity Unread

-- What a piece of an input says of what is left of it, where the pieces before have an even number of bytes: there is more, or it is over.
abbrev pub left_of : Input → ControlFlow Rest (Unit {0})
left_of (Ended n) = Break (Ok (parity_of n))
left_of Full = Continue tt
left_of (Failed n) = Break (Err (record {}))

-- What there is to judge of a trace that fills the buffer, by what is behind. Its line is that of the whole trace (`Long.antt`).
abbrev pub known_long : Rest → List ℕ → Known
known_long (Ok Even) buffer = bytes buffer
known_long (Ok Odd) buffer = bytes (take odd_read buffer)
known_long (Err e) buffer = unread

-- What there is to judge of any trace that was read into a buffer.
abbrev pub known_trace : Input → Rest → List ℕ → Known
known_trace (Ended n) behind buffer = bytes (take n buffer)
known_trace Full behind buffer = known_long behind buffer
known_trace (Failed n) behind buffer = unread

-- The line is that of what was read; where reading failed nothing is answered. What the system's reads give is free.
pub record AnswersTraceInput (entry : List ℕ) (r : Result ℕ Unread) (exit : List ℕ) : Type 0 where
  pub space : List ℕ
  pub room : most_trace_read ≡ length space
  pub input : Input
  pub behind : Rest
  pub buffer : List ℕ
  pub received : Received space input buffer
  pub answers : Answers PrintsModelLine (known_trace input behind buffer) entry r exit
