use Rattle.model_writer.proofs.Theory.Bytes.{units_none, starts_room, starts_turn, starts_end}
use Rattle.model_writer.proofs.Model.write_starts.Goals as goal

pub loop-i-init : goal.loop-i-init
loop-i-init c = units_none

pub put_word-requires : goal.put_word-requires
put_word-requires c = starts_room _ _ _ _ c.requires _ _ c.loop-i.invariant c.loop-i-test.true

pub loop-i-preserved : goal.loop-i-preserved
loop-i-preserved c = starts_turn _ _ _ _ c.requires _ _ _ c.loop-i.invariant c.loop-i-test.true c.put_word.ensures

pub returns : goal.returns
returns c = starts_end _ _ _ _ c.requires _ _ c.loop-i.invariant c.loop-i-test.false
