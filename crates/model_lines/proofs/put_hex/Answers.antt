use Rattle.std.proofs.Common.{◌+◌, drop, get_or, ◌∙◌}
use Rattle.text.proofs.Theory.Appending.{left_next, left_none, left_room, left_same}
use Rattle.model_lines.specs.Prints.{octet_text, hex_text}
use Rattle.model_lines.proofs.Theory.PrintsLaws.{hex_next, hex_none}
use Rattle.model_lines.proofs.put_hex.Goals as goal

pub put_octet-requires : goal.put_octet-requires
put_octet-requires c =
    let l = c.loop-byte in
    let bytes = c.args.bytes.now in
    left_room (octet_text (get_or bytes l.byte-index 0)) (hex_text (drop (l.byte-index + 1) bytes)) c.requires
    (left_same (hex_next bytes l.byte-index c.loop-byte-test.true) l.invariant.1)

pub loop-byte-preserved : goal.loop-byte-preserved
loop-byte-preserved c =
    let l = c.loop-byte in
    let bytes = c.args.bytes.now in (
      c.put_octet.ensures.same_buffer ∙ l.invariant.0,
      left_next (octet_text (get_or bytes l.byte-index 0)) (hex_text (drop (l.byte-index + 1) bytes))
          (left_same (hex_next bytes l.byte-index c.loop-byte-test.true) l.invariant.1) c.put_octet.ensures.appended,
    )

pub returns-clause-appended : goal.returns-clause-appended
returns-clause-appended c =
    let l = c.loop-byte in
    left_none (left_same (hex_none c.args.bytes.now l.byte-index c.loop-byte-test.false) l.invariant.1)
