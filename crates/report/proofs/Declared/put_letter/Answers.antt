use Rattle.std.proofs.Common.{sym, ap}
use Rattle.text.proofs.Theory.Appending.{room_same, appended_same}
use Rattle.report.specs.Lines.{letter_line}
use Rattle.report.specs.Shown.{names_of}
use Rattle.report.proofs.Theory.Forms.{copy_form, equal_form, unequal_form}
use Rattle.report.proofs.Declared.put_letter.Goals as goal

pub put_two-requires : goal.put_two-requires
put_two-requires c = let d = c.args.self.now in room_same (copy_form d.registers d.functions d.header c.in-Copy.is) c.requires

pub put_application-requires : goal.put_application-requires
put_application-requires c =
    let d = c.args.self.now in room_same (ap (letter_line (names_of d.registers d.functions) d.header) c.in-Apply.is) c.requires

pub put_two-requires-in-Equal : goal.put_two-requires-in-Equal
put_two-requires-in-Equal c = let d = c.args.self.now in room_same (equal_form d.registers d.functions d.header c.in-Equal.is) c.requires

pub put_two-requires-in-Unequal : goal.put_two-requires-in-Unequal
put_two-requires-in-Unequal c = let d = c.args.self.now in room_same (unequal_form d.registers d.functions d.header c.in-Unequal.is) c.requires

pub returns-in-Copy-clause-appended : goal.returns-in-Copy-clause-appended
returns-in-Copy-clause-appended c =
    let d = c.args.self.now in appended_same (sym (copy_form d.registers d.functions d.header c.in-Copy.is)) c.put_two.ensures.appended

pub returns-in-Apply-clause-appended : goal.returns-in-Apply-clause-appended
returns-in-Apply-clause-appended c =
    let d = c.args.self.now in
    appended_same (sym (ap (letter_line (names_of d.registers d.functions) d.header) c.in-Apply.is)) c.put_application.ensures.appended

pub returns-in-Equal-clause-appended : goal.returns-in-Equal-clause-appended
returns-in-Equal-clause-appended c =
    let d = c.args.self.now in appended_same (sym (equal_form d.registers d.functions d.header c.in-Equal.is)) c.put_two-in-Equal.ensures.appended

pub returns-in-Unequal-clause-appended : goal.returns-in-Unequal-clause-appended
returns-in-Unequal-clause-appended c =
    let d = c.args.self.now in appended_same (sym (unequal_form d.registers d.functions d.header c.in-Unequal.is)) c.put_two-in-Unequal.ensures.appended
