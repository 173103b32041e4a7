use Rattle.std.proofs.Common.{arith}
use Rattle.text.proofs.Theory.Appending.{appended_same}
use Rattle.report.specs.Lines.{incoherent_word, coherent_word}
use Rattle.display_lines.proofs.Theory.Forms.{coherent_template, incoherent_template, coherent_state_form, incoherent_state_form, line_room, line_put}
use Rattle.display_lines.proofs.Theory.Forms.{judged_coherent, judged_incoherent}
use Rattle.display_lines.proofs.put_judged_line.Goals as goal

pub put_line-requires : goal.put_line-requires
put_line-requires c =
    let a = c.args in
    let f = c.state_fields-fields.ensures in
    line_room a.letters a.m _ f coherent_word coherent_template (coherent_state_form a.letters a.m _ f) (omega arith) c.requires.1 c.requires.0

pub put_line-requires-else-m : goal.put_line-requires-else-m
put_line-requires-else-m c =
    let a = c.args in
    let f = c.state_fields-fields.ensures in
    line_room a.letters a.m _ f incoherent_word incoherent_template (incoherent_state_form a.letters a.m _ f) (omega arith) c.requires.1 c.requires.0

pub returns-then-m-clause-appended : goal.returns-then-m-clause-appended
returns-then-m-clause-appended c =
    let a = c.args in
    let f = c.state_fields-fields.ensures in
    let put = line_put a.letters a.m _ f coherent_word coherent_template (coherent_state_form a.letters a.m _ f) (omega arith) c.requires.1
    c.put_line.ensures.appended in
    appended_same (judged_coherent a.letters a.m c.if-m.true) put.0

pub returns-then-m-clause-few : goal.returns-then-m-clause-few
returns-then-m-clause-few c =
    let a = c.args in
    let f = c.state_fields-fields.ensures in
    (line_put a.letters a.m _ f coherent_word coherent_template (coherent_state_form a.letters a.m _ f) (omega arith) c.requires.1
    c.put_line.ensures.appended).1

pub returns-else-m-clause-appended : goal.returns-else-m-clause-appended
returns-else-m-clause-appended c =
    let a = c.args in
    let f = c.state_fields-fields.ensures in
    let put = line_put a.letters a.m _ f incoherent_word incoherent_template (incoherent_state_form a.letters a.m _ f) (omega arith) c.requires.1
    c.put_line-else-m.ensures.appended in
    appended_same (judged_incoherent a.letters a.m c.if-m.false) put.0

pub returns-else-m-clause-few : goal.returns-else-m-clause-few
returns-else-m-clause-few c =
    let a = c.args in
    let f = c.state_fields-fields.ensures in
    (line_put a.letters a.m _ f incoherent_word incoherent_template (incoherent_state_form a.letters a.m _ f) (omega arith) c.requires.1
    c.put_line-else-m.ensures.appended).1
