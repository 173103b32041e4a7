-- What a program makes of an input.
use Rattle.std.specs.Prelude.{◌≡◌, List, ℕ, take, Result, Ok, Err}
use Rattle.files.specs.declared.Input.{Input}
use Rattle.files.specs.declared.Input.TheVariants.{Ended, Full, Failed}
use Rattle.files.specs.declared.Unread.{Unread}

-- What there is to judge: these bytes, or nothing, where a read failed.
pub data Known : Type 0 where
  bytes : List ℕ → Known
  unread : Known

-- Of an input that was read into a buffer: as many bytes as it had, at most the buffer's; all of them where it filled the buffer.
abbrev pub known : Input → List ℕ → Known
known (Ended n) buffer = bytes (take n buffer)
known Full buffer = bytes buffer
known (Failed n) buffer = unread

-- The lines of the bytes are in a lent buffer, by `Prints`; or there is nothing to judge: no line is written, and the buffer stays as it was lent (SPEC 12.5).
abbrev pub Answers : (List ℕ → List ℕ → ℕ → List ℕ → Type 0) → Known → List ℕ → Result ℕ Unread → List ℕ → Type 0
Answers Prints (bytes s) entry (Ok size) exit = Prints s entry size exit
Answers Prints (bytes s) entry (Err e) exit = ⊥
Answers Prints unread entry (Ok size) exit = ⊥
Answers Prints unread entry (Err e) exit = exit ≡ entry
