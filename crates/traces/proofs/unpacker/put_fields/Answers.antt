use Rattle.std.proofs.Common.{arith}
use Rattle.traces.specs.Writing.{plain_fields}
use Rattle.traces.proofs.Theory.WritingLaws.{plain_length}
use Rattle.traces.proofs.Unpacking.{part_sets}
use Rattle.traces.proofs.unpacker.put_fields.Goals as goal

pub returns : goal.returns
returns c =
    let n = plain_length c.args.h c.args.l in
    rw (c.copy_from_slice.ensures.after, c.fields_of.ensures)
    (part_sets c.args.to _ c.args.out.now (plain_fields c.args.h c.args.l) (omega (arith, n)) (omega arith))
