-- The run over a trace's bytes, one by one. What the code computes (SPEC 6.4).
use Rattle.std.specs.Prelude.{ℕ, ◌+◌, ◌*◌, Bool, true, false, List, [], ◌∷◌}
use Rattle.letters.specs.RefusalNumbers.{trace_too_short, trace_odd_length}
use Rattle.streaming.specs.Monitor.{idle_of}
use Rattle.streaming.specs.Run.{run_with, begun_run, taken_run}
use Rattle.streaming.specs.declared.Phase.{Phase}
use Rattle.streaming.specs.declared.Phase.TheVariants.{Empty, One, Even, Odd}
use Rattle.streaming.specs.declared.Run.{Run}
use Rattle.streaming.specs.declared.Stream.{Stream}
use Rattle.streaming.specs.declared.RunAnswer.{RunAnswer}
use Rattle.streaming.specs.declared.RunAnswer.TheVariants.{Judged, Refused}

abbrev pub stream_with : Phase → ℕ → Run → Stream
stream_with phase high run = record { phase = phase; high = high; run = run }

-- before the first byte
abbrev pub empty_stream : Stream
empty_stream = stream_with Empty 0 (run_with idle_of 0 (Judged 0 0))

abbrev pub pushed_in : Phase → Stream → ℕ → Stream
pushed_in Empty s byte = stream_with One byte s.run
pushed_in One s byte = stream_with Even 0 (begun_run (s.high * 256 + byte))
pushed_in Even s byte = stream_with Odd byte s.run
pushed_in Odd s byte = stream_with Even 0 (taken_run s.run (s.high * 256 + byte))

-- one byte more
unfoldable pub pushed_of : Stream → ℕ → Stream
pushed_of s byte = pushed_in s.phase s byte

-- "At least two bytes? 1. Even length? 2." (SPEC 6.4, 11.2) Both come before what the words say.
abbrev pub finished_in : Phase → Stream → RunAnswer
finished_in Empty s = Refused trace_too_short 0
finished_in One s = Refused trace_too_short 0
finished_in Even s = s.run.verdict
finished_in Odd s = Refused trace_odd_length 0

unfoldable pub finished_of : Stream → RunAnswer
finished_of s = finished_in s.phase s

-- whether the next byte begins a letter
abbrev pub at_letter : Phase → Bool
at_letter Empty = false
at_letter One = false
at_letter Even = true
at_letter Odd = false

-- letter after letter, two bytes a word; a last byte without its other half is left alone
unfoldable pub taken_all : Run → List ℕ → Run
taken_all run [] = run
taken_all run (high ∷ []) = run
taken_all run (high ∷ low ∷ bytes) = taken_all (taken_run run (high * 256 + low)) bytes

-- byte after byte
unfoldable pub pushed_all : Stream → List ℕ → Stream
pushed_all s [] = s
pushed_all s (byte ∷ bytes) = pushed_all (pushed_of s byte) bytes

-- the answer for the bytes of a trace
unfoldable pub judged_bytes : List ℕ → RunAnswer
judged_bytes bytes = finished_of (pushed_all empty_stream bytes)
