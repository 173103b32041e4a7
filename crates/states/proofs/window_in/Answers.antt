use Rattle.std.proofs.Common.{rules, refl}
use Rattle.states.proofs.Laws.{copied}
use Rattle.states.specs.States.{monitor_window_in}
use Rattle.records.specs.Records.{is_set}
use Rattle.states.proofs.window_in.Goals as goal

pub returns : goal.returns
unfolding monitor_window_in is_set
returns c =
    let s = c.args.state.now in
    rw (
      c.eight_at-class.ensures,
      c.eight_at-unequal.ensures,
      c.marks-mark.ensures,
      c.eight_at.ensures,
      copied c.lay.new.bytes s _ 31 32 _ refl (search rules) (search rules) c.lay.ensures.bytes_after,
      copied c.lay-2.new.bytes s _ 63 256 _ refl (search rules) (search rules) c.lay-2.ensures.bytes_after,
    )
