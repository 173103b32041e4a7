use Rattle.std.proofs.Common.{sym, [], ◌∷◌, arith}
use lib.ListN.{get_or}
use Rattle.text.proofs.Theory.Appending.{room_same, room_first, room_then, appended_same, appended_then}
use Rattle.model_lines.proofs.Theory.PrintsLaws.{octet_digits}
use Rattle.model_lines.proofs.put_octet.Goals as goal

pub put_byte-requires : goal.put_byte-requires
put_byte-requires c =
    let form = octet_digits c.args.byte c.hex.result c.hex.new.out (omega (arith, c.ranges.byte.fits)) c.hex.ensures.len c.hex.ensures.digits in
    room_first (get_or c.hex.new.out 0 0 ∷ []) (get_or c.hex.new.out 1 0 ∷ []) (room_same form c.requires)

pub put_byte-requires-2 : goal.put_byte-requires-2
put_byte-requires-2 c =
    let form = octet_digits c.args.byte c.hex.result c.hex.new.out (omega (arith, c.ranges.byte.fits)) c.hex.ensures.len c.hex.ensures.digits in
    room_then (get_or c.hex.new.out 0 0 ∷ []) (get_or c.hex.new.out 1 0 ∷ []) (room_same form c.requires) c.put_byte.ensures.appended

pub returns-clause-appended : goal.returns-clause-appended
returns-clause-appended c =
    let form = octet_digits c.args.byte c.hex.result c.hex.new.out (omega (arith, c.ranges.byte.fits)) c.hex.ensures.len c.hex.ensures.digits in
    appended_same (sym form)
    (appended_then (get_or c.hex.new.out 0 0 ∷ []) (get_or c.hex.new.out 1 0 ∷ []) c.put_byte.ensures.appended c.put_byte-2.ensures.appended)
