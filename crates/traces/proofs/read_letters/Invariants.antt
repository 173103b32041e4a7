use Rattle.std.proofs.Common.{◌≡◌, drop}
use Rattle.letters.specs.Editions.{first_edition}
use Rattle.traces.specs.Reading.{letter_in, letters_of}
use Rattle.traces.specs.ReadingParts.{counted}
use Rattle.traces.proofs.Counting.{count_from}
use Rattle.traces.proofs.read_letters.Given as goal

abbrev pub invariant-loop-i : goal.invariant-loop-i
invariant-loop-i l = count_from (letter_in first_edition l.h) l.h l.i (drop l.i l.letters) ≡ counted (letters_of first_edition l.h l.bytes)
