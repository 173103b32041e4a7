-- the word, the digits and the line feed
use Rattle.std.proofs.Common.{sym, [], ◌∷◌, ◌++◌}
use Rattle.text.proofs.Theory.Appending.{room_same, room_first, room_then, appended_same, appended_then}
use Rattle.model_lines.specs.Prints.{hex_text, model_word}
use Rattle.model_lines.proofs.Theory.PrintsLaws.{model_form, feed_form, model_parts}
use Rattle.model_lines.proofs.put_model.Goals as goal

pub put_line-requires : goal.put_line-requires
put_line-requires c =
    let bytes = c.args.bytes.now in
    room_same model_form (room_first model_word (hex_text bytes ++ (10 ∷ [])) (room_same (model_parts bytes) c.requires))

pub put_hex-requires : goal.put_hex-requires
put_hex-requires c =
    let bytes = c.args.bytes.now in
    room_first (hex_text bytes) (10 ∷ [])
    (room_then model_word (hex_text bytes ++ (10 ∷ [])) (room_same (model_parts bytes) c.requires) (appended_same (sym model_form) c.put_line.ensures.appended))

pub put_line-requires-2 : goal.put_line-requires-2
put_line-requires-2 c =
    let bytes = c.args.bytes.now in
    room_same feed_form (room_then (hex_text bytes) (10 ∷ [])
    (room_then model_word (hex_text bytes ++ (10 ∷ [])) (room_same (model_parts bytes) c.requires) (appended_same (sym model_form) c.put_line.ensures.appended))
    c.put_hex.ensures.appended)

pub returns-clause-appended : goal.returns-clause-appended
returns-clause-appended c =
    let bytes = c.args.bytes.now in
    appended_same (sym (model_parts bytes)) (appended_then model_word (hex_text bytes ++ (10 ∷ []))
    (appended_same (sym model_form) c.put_line.ensures.appended)
    (appended_then (hex_text bytes) (10 ∷ []) c.put_hex.ensures.appended (appended_same (sym feed_form) c.put_line-2.ensures.appended)))
