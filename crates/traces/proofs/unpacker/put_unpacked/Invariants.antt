use Rattle.std.proofs.Common.{◌≡◌, ◌*◌, drop, length}
use Rattle.letters.specs.Editions.{first_edition}
use Rattle.traces.specs.Reading.{letter_in}
use Rattle.traces.specs.Putting.{put_each}
use Rattle.traces.specs.Unpacking.{put_plain, put_unpacked}
use Rattle.traces.proofs.unpacker.put_unpacked.Given as goal

abbrev pub invariant-loop-i : goal.invariant-loop-i
invariant-loop-i l = (length l.out ≡ length l.fn.out)
    × (put_each (put_plain l.h) 5 (letter_in first_edition l.h) l.out (5 * l.i) (drop l.i l.letters) ≡ put_unpacked l.h l.fn.out l.bytes)
