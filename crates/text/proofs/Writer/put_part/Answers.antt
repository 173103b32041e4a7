use Rattle.std.proofs.Common.{arith, sym}
use Rattle.text.proofs.Theory.Appending.{room_same, appended_same}
use Rattle.text.proofs.Theory.Templates.{part_low, part_name, part_number, part_high}
use Rattle.text.proofs.Writer.put_part.Goals as goal
use Rattle.text.proofs.Writer.put_part.Goals.{in_default-via-then-byte-lt48, in_default-via-else-byte-lt48+else-byte-lt52+else-byte-lt56}

pub put_name-requires : goal.put_name-requires
put_name-requires c = room_same (part_name c.args.byte c.args.fields (omega arith) (omega arith)) c.requires

pub put_number-requires : goal.put_number-requires
put_number-requires c = room_same (part_number c.args.byte c.args.fields (omega arith) (omega arith)) c.requires

pub put_byte-requires : goal.put_byte-requires
put_byte-requires c = elim c.in_default.branch [
  | in_default-via-then-byte-lt48 w ↦ room_same (part_low c.args.byte c.args.fields (omega arith)) c.requires
  | in_default-via-else-byte-lt48+else-byte-lt52+else-byte-lt56 w ↦ room_same (part_high c.args.byte c.args.fields (omega arith)) c.requires
]

pub returns-in-48-to-51-clause-appended : goal.returns-in-48-to-51-clause-appended
returns-in-48-to-51-clause-appended c = appended_same (sym (part_name c.args.byte c.args.fields (omega arith) (omega arith))) c.put_name.ensures.appended

pub returns-in-52-to-55-clause-appended : goal.returns-in-52-to-55-clause-appended
returns-in-52-to-55-clause-appended c =
    appended_same (sym (part_number c.args.byte c.args.fields (omega arith) (omega arith))) c.put_number.ensures.appended

pub returns-in_default-clause-appended : goal.returns-in_default-clause-appended
returns-in_default-clause-appended c = elim c.in_default.branch [
  | in_default-via-then-byte-lt48 w ↦ appended_same (sym (part_low c.args.byte c.args.fields (omega arith))) c.put_byte.ensures.appended
  | in_default-via-else-byte-lt48+else-byte-lt52+else-byte-lt56 w ↦
      appended_same (sym (part_high c.args.byte c.args.fields (omega arith))) c.put_byte.ensures.appended
]
