use Rattle.std.proofs.Common.{◌+◌, drop, get_or, ◌∙◌}
use Rattle.text.specs.Templates.{part, filled_in}
use Rattle.text.proofs.Theory.Templates.{filled_next, filled_none}
use Rattle.text.proofs.Theory.Appending.{left_next, left_none, left_room, left_same}
use Rattle.text.proofs.Writer.put_line.Goals as goal

pub put_part-requires : goal.put_part-requires
put_part-requires c =
    let l = c.loop-byte in
    let template = c.args.template.now in
    let fields = c.args.fields in
    left_room (part (get_or template l.byte-index 0) fields) (filled_in (drop (l.byte-index + 1) template) fields)
    c.requires (left_same (filled_next template fields l.byte-index c.loop-byte-test.true) l.invariant.1)

pub loop-byte-preserved : goal.loop-byte-preserved
loop-byte-preserved c =
    let l = c.loop-byte in
    let template = c.args.template.now in
    let fields = c.args.fields in (
      c.put_part.ensures.same_buffer ∙ l.invariant.0,
      left_next (part (get_or template l.byte-index 0) fields) (filled_in (drop (l.byte-index + 1) template) fields)
          (left_same (filled_next template fields l.byte-index c.loop-byte-test.true) l.invariant.1) c.put_part.ensures.appended,
    )

pub returns-clause-appended : goal.returns-clause-appended
returns-clause-appended c =
    left_none (left_same (filled_none c.args.template.now c.args.fields c.loop-byte.byte-index c.loop-byte-test.false) c.loop-byte.invariant.1)
