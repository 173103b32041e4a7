use Rattle.std.proofs.Common.{sym}
use Rattle.text.proofs.Theory.Appending.{room_same, appended_same}
use Rattle.report.proofs.Theory.Forms.{ApplicationNames, two_form, one_form}
use Rattle.report.proofs.Declared.put_application.Goals as goal

pub put_line-requires : goal.put_line-requires
put_line-requires c =
    let a = c.args in
    let names : ApplicationNames a.self.now.registers a.self.now.functions a.target a.function a.first a.second
    c.name_at-result.result c.name_at-name.result c.name_at-left.result c.name_at-right.result = record {
      target = c.name_at-result.ensures;
      function = c.name_at-name.ensures;
      first = c.name_at-left.ensures;
      second = c.name_at-right.ensures;
    } in room_same (two_form c.args.self.now.header names c.takes_two.ensures c.if-takes_two.true) c.requires

pub put_line-requires-else-takes_two : goal.put_line-requires-else-takes_two
put_line-requires-else-takes_two c =
    let a = c.args in
    let names : ApplicationNames a.self.now.registers a.self.now.functions a.target a.function a.first a.second
    c.name_at-result.result c.name_at-name.result c.name_at-left.result c.name_at-right.result = record {
      target = c.name_at-result.ensures;
      function = c.name_at-name.ensures;
      first = c.name_at-left.ensures;
      second = c.name_at-right.ensures;
    } in room_same (one_form c.args.self.now.header names c.takes_two.ensures c.if-takes_two.false) c.requires

pub returns-then-takes_two-clause-appended : goal.returns-then-takes_two-clause-appended
returns-then-takes_two-clause-appended c =
    let a = c.args in
    let names : ApplicationNames a.self.now.registers a.self.now.functions a.target a.function a.first a.second
    c.name_at-result.result c.name_at-name.result c.name_at-left.result c.name_at-right.result = record {
      target = c.name_at-result.ensures;
      function = c.name_at-name.ensures;
      first = c.name_at-left.ensures;
      second = c.name_at-right.ensures;
    } in appended_same (sym (two_form c.args.self.now.header names c.takes_two.ensures c.if-takes_two.true)) c.put_line.ensures.appended

pub returns-else-takes_two-clause-appended : goal.returns-else-takes_two-clause-appended
returns-else-takes_two-clause-appended c =
    let a = c.args in
    let names : ApplicationNames a.self.now.registers a.self.now.functions a.target a.function a.first a.second
    c.name_at-result.result c.name_at-name.result c.name_at-left.result c.name_at-right.result = record {
      target = c.name_at-result.ensures;
      function = c.name_at-name.ensures;
      first = c.name_at-left.ensures;
      second = c.name_at-right.ensures;
    } in appended_same (sym (one_form c.args.self.now.header names c.takes_two.ensures c.if-takes_two.false)) c.put_line-else-takes_two.ensures.appended
