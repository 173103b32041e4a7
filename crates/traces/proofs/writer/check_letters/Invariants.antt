use Rattle.std.proofs.Common.{◌≡◌, drop}
use Rattle.traces.specs.Reading.{letters_from}
use Rattle.traces.specs.ReadingParts.{counted}
use Rattle.traces.specs.Writing.{unpack_letter, unpacked_parts}
use Rattle.traces.proofs.Counting.{count_from}
use Rattle.traces.proofs.writer.check_letters.Given as goal

abbrev pub invariant-loop-i : goal.invariant-loop-i
invariant-loop-i l = count_from (unpack_letter l.h) l.h l.i (drop l.i (unpacked_parts l.fields))
    ≡ counted (letters_from (unpack_letter l.h) l.h 1 (unpacked_parts l.fields))
