use Rattle.model_writer.proofs.Theory.Bytes.{whole}
use Rattle.model_writer.proofs.Model.write.Goals as goal

pub returns : goal.returns
returns c = whole _ _ _ _ _ _ _ _ _ _ _ _ _ c.requires c.put_word.ensures c.put_word-2.ensures c.write_starts.ensures c.write_rows.ensures
