use Rattle.std.proofs.Common.{◌≡◌, ◌+◌, ◌*◌, drop, length}
use Rattle.letters.specs.Editions.{first_edition}
use Rattle.traces.specs.Putting.{word_in, put_words}
use Rattle.traces.specs.Writing.{unpacked_parts}
use Rattle.traces.proofs.writer.put_letters.Given as goal

abbrev pub invariant-loop-i : goal.invariant-loop-i
invariant-loop-i l = (length l.out ≡ length l.fn.out)
    × (put_words (word_in first_edition l.h) l.out (2 * l.i + 2) (drop l.i (unpacked_parts l.fields))
    ≡ put_words (word_in first_edition l.h) l.fn.out 2 (unpacked_parts l.fields))
