use Rattle.model_writer.proofs.Theory.AnswerLaws.{puttable, put_modelled}
use Rattle.model_writer.proofs.show_model.Goals as goal

pub put-requires : goal.put-requires
put-requires c = puttable _ _ _ _ _ _ c.requires.0 _ _ _ _ c.number.ensures (rw c.requires.1 at c.list.ensures) _

pub returns : goal.returns
returns c = put_modelled _ _ _ _ _ _ c.requires.0 _ _ _ _ c.number.ensures (rw c.requires.1 at c.list.ensures) _ _ _ c.put.ensures
