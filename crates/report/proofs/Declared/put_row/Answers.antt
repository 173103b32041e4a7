use Rattle.std.proofs.Common.{sym}
use Rattle.text.proofs.Theory.Appending.{room_same, appended_same}
use Rattle.report.proofs.Theory.Forms.{row_form}
use Rattle.report.proofs.Declared.put_row.Goals as goal

pub put_line-requires : goal.put_line-requires
put_line-requires c =
    let d = c.args.self.now in
    room_same (row_form d.functions d.header c.args.row c.name_at-name.ensures c.second_printed-second.ensures) c.requires

pub returns-clause-appended : goal.returns-clause-appended
returns-clause-appended c =
    let d = c.args.self.now in
    appended_same (sym (row_form d.functions d.header c.args.row c.name_at-name.ensures c.second_printed-second.ensures)) c.put_line.ensures.appended
