use Rattle.std.proofs.Common.{sym}
use Rattle.text.proofs.Theory.Appending.{room_same, appended_same}
use Rattle.layout_writer.proofs.Theory.Spacing.{line_ended, line_goes_on, appended_nothing}
use Rattle.layout_writer.proofs.put_line_end.Goals as goal

pub put_byte-requires : goal.put_byte-requires
put_byte-requires c = room_same (line_ended c.args.token _ c.ends_line.ensures c.if-ends_line.true) c.requires

pub returns-then-ends_line-clause-appended : goal.returns-then-ends_line-clause-appended
returns-then-ends_line-clause-appended c =
    appended_same (sym (line_ended c.args.token _ c.ends_line.ensures c.if-ends_line.true)) c.put_byte.ensures.appended

pub returns-else-ends_line-clause-appended : goal.returns-else-ends_line-clause-appended
returns-else-ends_line-clause-appended c = appended_nothing _ (line_goes_on c.args.token _ c.ends_line.ensures c.if-ends_line.false)
