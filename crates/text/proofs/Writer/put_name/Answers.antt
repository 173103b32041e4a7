use Rattle.std.proofs.Common.{[], ◌∷◌, ◌/◌, ◌%◌, ◌∙◌}
use Rattle.text.specs.Names.{name_text}
use Rattle.text.proofs.Theory.Names.{name_next, name_none}
use Rattle.text.proofs.Theory.Appending.{left_next, left_none, left_room, left_same}
use Rattle.text.proofs.Writer.put_name.Goals as goal

pub put_byte-requires : goal.put_byte-requires
put_byte-requires c =
    let l = c.loop-rest in
    left_room (l.rest % 256 ∷ []) (name_text (l.rest / 256)) c.requires (left_same (name_next l.rest c.loop-rest-test.true) l.invariant.1)

pub loop-rest-preserved : goal.loop-rest-preserved
loop-rest-preserved c =
    let l = c.loop-rest in (
      c.put_byte.ensures.same_buffer ∙ l.invariant.0,
      left_next (l.rest % 256 ∷ []) (name_text (l.rest / 256)) (left_same (name_next l.rest c.loop-rest-test.true) l.invariant.1) c.put_byte.ensures.appended,
    )

pub returns-clause-appended : goal.returns-clause-appended
returns-clause-appended c = left_none (left_same (name_none c.loop-rest.rest c.loop-rest-test.false) c.loop-rest.invariant.1)
