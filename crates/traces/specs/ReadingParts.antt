-- A trace of so many letters at most, and a trace in parts: its header and number of letters, and one letter of it.
use Rattle.std.specs.Prelude.{ℕ, ◌+◌, ◌*◌, List, ltb, leb, length, take, drop}
use Rattle.letters.specs.Editions.{Edition}
use Rattle.traces.specs.Reading.{TraceReading, reading_where, trace, letter_in}
use Rattle.letters.specs.declared.Header.{Header}
use Rattle.letters.specs.Answers.{Answer, refusal, value}
use Rattle.letters.specs.declared.Letter.{Letter}
use Rattle.base.specs.Choice.{pick}
use Rattle.letters.specs.RefusalNumbers.{letter_malformed}

-- "For the whole-trace engine, at most 1,024 letters? 5." (SPEC 11.2)
abbrev pub reading_within : ℕ → Edition → List ℕ → TraceReading
reading_within limit e s = reading_where (ltb limit) e s

-- header and number of letters
abbrev pub counted : TraceReading → Answer (Header × ℕ)
counted (trace h ls) = value (h, length ls)
counted (TraceReading.refused number place) = refusal number place

-- Letter k, from 0, of the bytes of a trace with header h; refused where there are no such bytes.
unfoldable pub letter_at : Edition → Header → List ℕ → ℕ → Answer Letter
letter_at e h s k = pick (leb (e.bytes * (k + 2)) (length s)) (λ _. letter_in e h (take e.bytes (drop (e.bytes * (k + 1)) s))) λ _. refusal letter_malformed 0
