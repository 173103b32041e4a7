-- What the answer of a read means, and what reading into a lent buffer leaves there.
use Rattle.std.specs.Prelude.{◌≡◌, List, ℕ, ◌+◌, ◌-◌, ◌<◌, ◌≤◌, min, eqb, length, drop, Option, Some, None, Result, Ok, Err}
use Rattle.std.proofs.Math.Seq.{paste}
use Rattle.base.specs.Choice.{pick}
use Rattle.std.specs.declared.ops.ControlFlow.{ControlFlow}
use Rattle.std.specs.declared.ops.ControlFlow.TheVariants.{Continue, Break}
use Rattle.files.specs.declared.Unread.{Unread}
use Rattle.files.specs.declared.Input.{Input}
use Rattle.files.specs.declared.Input.TheVariants.{Ended, Full, Failed}

-- What one read gave: so many bytes, or none, because the input ended; or it failed.
abbrev pub OneRead : Type 0
OneRead = Result (Option ℕ) Unread

-- A read of at most `most` bytes fails, or answers 0 at the end of the input, and else how many bytes it gave
-- (POSIX.1-2024, read, "Return value").
abbrev pub meaning : Result ℕ Unread → ℕ → OneRead
meaning (Err e) most = Err e
meaning (Ok n) most = pick (eqb n 0) (λ _. Ok None) λ _. Ok (Some (min n most))

-- How many bytes one read gave.
abbrev pub given : OneRead → ℕ
given (Ok (Some n)) = n
given (Ok None) = 0
given (Err e) = 0

-- A read that was asked for at most `most` bytes, and for one at least, gave so many: none only where the input ended or it failed.
abbrev pub Gave : ℕ → OneRead → Type 0
Gave most (Ok (Some n)) = (0 < n) × (n ≤ most)
Gave most (Ok None) = Unit {0}
Gave most (Err e) = Unit {0}

-- What a read gave, the front of `piece`, stands in the buffer from `at` on; all other bytes stay.
pub record Stored (entry : List ℕ) (at : ℕ) (piece : List ℕ) (r : OneRead) (exit : List ℕ) : Type 0 where
  pub gave : Gave (length entry - at) r
  pub front : given r ≤ length piece
  pub bytes : exit ≡ paste entry at piece (given r)

-- How many of the buffer's bytes were read.
abbrev pub read_count : Input → ℕ → ℕ
read_count (Ended n) room = n
read_count Full room = room
read_count (Failed n) room = n

-- What follows a read before which `done` bytes were read: only bytes lead on, and only the end of the input is taken for it.
abbrev pub following : OneRead → ℕ → ControlFlow Input ℕ
following (Ok (Some n)) done = Continue n
following (Ok None) done = Break (Ended done)
following (Err e) done = Break (Failed done)

-- Reads one after the other into a buffer of `room` bytes, `done` of which are read: while there is room, each gives bytes or is the last.
pub data ReadSequence (room : ℕ) (r : Input) : ℕ → Type 0 where
  full : r ≡ Full → ReadSequence room r room
  over : {done : ℕ} (answer : OneRead) → done < room → following answer done ≡ Break r → ReadSequence room r done
  more : {done : ℕ} (answer : OneRead) (n : ℕ) → following answer done ≡ Continue n → 0 < n → done + n ≤ room → ReadSequence room r (done + n)
      → ReadSequence room r done

-- The reads' answers lead to the result. The bytes that they gave are the front of the buffer; those behind them stay as they were lent. What
-- the system answers is free: the contracts have no history of its calls, so `reads` is what the proof takes from them, one from each turn.
pub record Received (entry : List ℕ) (r : Input) (exit : List ℕ) : Type 0 where
  pub reads : ReadSequence (length entry) r 0
  pub length_kept : length exit ≡ length entry
  pub behind : drop (read_count r (length entry)) exit ≡ drop (read_count r (length entry)) entry
