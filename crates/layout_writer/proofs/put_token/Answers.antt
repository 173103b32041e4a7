use Rattle.text.specs.Names.{name_text}
use Rattle.text.proofs.Theory.Appending.{room_first, room_then, appended_then}
use Rattle.layout_theory.specs.Layout.{blank_before}
use Rattle.layout_writer.proofs.put_token.Goals as goal

pub put_blank-requires : goal.put_blank-requires
put_blank-requires c = room_first (blank_before c.args.follows c.args.token) _ c.requires

pub put_name-requires : goal.put_name-requires
put_name-requires c =
    let behind = room_then (blank_before c.args.follows c.args.token) _ c.requires c.put_blank.ensures.appended in
    room_first (name_text c.args.token) _ behind

pub put_line_end-requires : goal.put_line_end-requires
put_line_end-requires c =
    let behind = room_then (blank_before c.args.follows c.args.token) _ c.requires c.put_blank.ensures.appended in
    room_then (name_text c.args.token) _ behind c.put_name.ensures.appended

pub returns-clause-appended : goal.returns-clause-appended
returns-clause-appended c =
    appended_then (blank_before c.args.follows c.args.token) _ c.put_blank.ensures.appended
    (appended_then (name_text c.args.token) _ c.put_name.ensures.appended c.put_line_end.ensures.appended)
