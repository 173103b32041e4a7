use Rattle.std.proofs.Common.{arith}
use Rattle.display_lines.specs.Lines.{fresh_word}
use Rattle.display_lines.proofs.Theory.Forms.{fresh_template, fresh_state_form, line_room, line_put}
use Rattle.display_lines.proofs.put_fresh_line.Goals as goal

pub put_line-requires : goal.put_line-requires
put_line-requires c =
    let f = c.state_fields.ensures in
    line_room 0 c.args.m _ f fresh_word fresh_template (fresh_state_form 0 c.args.m _ f) (omega arith) (omega arith) (omega (arith, c.requires))

pub returns-clause-appended : goal.returns-clause-appended
returns-clause-appended c =
    let f = c.state_fields.ensures in
    (line_put 0 c.args.m _ f fresh_word fresh_template (fresh_state_form 0 c.args.m _ f) (omega arith) (omega arith) c.put_line.ensures.appended).0

pub returns-clause-few : goal.returns-clause-few
returns-clause-few c =
    let f = c.state_fields.ensures in
    let few = (line_put 0 c.args.m _ f fresh_word fresh_template (fresh_state_form 0 c.args.m _ f) (omega arith) (omega arith) c.put_line.ensures.appended).1 in
    omega (arith, few, c.requires)
