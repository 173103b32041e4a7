use Rattle.std.proofs.Common.{arith, sym, ap, ◌∙◌, ◌+◌, ◌*◌, length, refl}
use lib.Seq.{length-sets}
use Rattle.letters.specs.Editions.{first_edition}
use Rattle.traces.specs.Reading.{letter_in}
use Rattle.traces.specs.Unpacking.{put_plain}
use Rattle.traces.proofs.Counting.{piece_of, unit_read, units_chunked}
use Rattle.traces.proofs.Putting.{put_good, put_bad, put_ends, put_same}
use Rattle.traces.proofs.unpacker.put_unpacked.Goals as goal

pub loop-i-init : goal.loop-i-init
loop-i-init c = (
  refl,
  put_same (put_plain c.args.h) 5 (letter_in first_edition c.args.h) _ _ c.args.out.now 0
      (sym (units_chunked c.args.bytes.now _ c.requires.0 c.as_chunks.ensures.front)),
)

pub returns-in_default : goal.returns-in_default
returns-in_default c =
    let unit = piece_of 2 c.loop-i.i _ _ _ c.as_chunks.ensures.front (omega arith) (omega arith) in
    let read = unit_read c.args.h _ _ _ unit c.word.ensures c.in_default.ensures in
    put_bad (put_plain c.args.h) 5 (letter_in first_edition c.args.h) _ c.loop-i.i (5 * c.loop-i.i) 4 0 _ _ _ c.loop-i.invariant.1 (omega arith) read

pub loop-i-preserved : goal.loop-i-preserved
loop-i-preserved c =
    let unit = piece_of 2 c.loop-i.i _ _ _ c.as_chunks.ensures.front (omega arith) (omega arith) in
    let read = unit_read c.args.h _ _ _ unit c.word.ensures c.in-Some.ensures in (
      ap length c.put_fields.ensures ∙ rw length-sets c.loop-i.invariant.0,
      put_good (put_plain c.args.h) 5 (letter_in first_edition c.args.h) _ c.loop-i.i (5 * c.loop-i.i) (5 * (c.loop-i.i + 1)) _ _ _ _ _ c.loop-i.invariant.1
          (omega arith) read c.put_fields.ensures (omega arith),
    )

pub returns : goal.returns
returns c = put_ends (put_plain c.args.h) 5 (letter_in first_edition c.args.h) _ c.loop-i.i (5 * c.loop-i.i) _ _ c.loop-i.invariant.1 (omega arith)
