-- What a reader answered (SPEC 12.5).
use Rattle.std.specs.Prelude.{ℕ, Option, Some, Result, Ok, Err}
use Rattle.files.specs.declared.Unread.{Unread}

-- How many bytes it gave, or that it failed.
abbrev pub answered : {E : Type 0} → Result ℕ E → Result ℕ Unread
answered (Ok n) = Ok n
answered (Err e) = Err (record {})

-- The error of the last read that failed, after this answer.
abbrev pub kept : {E : Type 0} → Result ℕ E → Option E → Option E
kept (Ok n) error = error
kept (Err e) error = Some e
