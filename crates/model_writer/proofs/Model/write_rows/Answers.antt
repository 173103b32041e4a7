use Rattle.std.proofs.Common.{refl}
use Rattle.model_writer.proofs.Theory.Bytes.{units_none, rows_room, rows_turn, rows_end}
use Rattle.model_writer.proofs.Model.write_rows.Goals as goal

pub loop-k-init : goal.loop-k-init
loop-k-init c = units_none

pub row_word-word-requires : goal.row_word-word-requires
row_word-word-requires c = c.requires.each _ c.loop-k-test.true

pub put_five-requires : goal.put_five-requires
put_five-requires c = rows_room _ _ _ _ _ _ _ _ _ c.requires _ _ c.loop-k.invariant c.loop-k-test.true

pub loop-k-preserved : goal.loop-k-preserved
loop-k-preserved c = rows_turn _ _ _ _ _ _ _ _ _ c.requires _ _ _ _ _ c.loop-k.invariant c.loop-k-test.true refl c.row_word-word.ensures c.put_five.ensures

pub returns : goal.returns
returns c = rows_end _ _ _ _ _ _ _ _ _ c.requires _ _ c.loop-k.invariant c.loop-k-test.false
