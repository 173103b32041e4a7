use Rattle.std.proofs.Common.{refl, ◌∙◌}
use Rattle.model_writer.proofs.Theory.Bytes.{word_of, fields_small}
use Rattle.model_writer.proofs.Model.row_word.Goals as goal

pub joined-requires : goal.joined-requires
joined-requires c = fields_small _ _ _ _ _ _ _ _ _ _ _ _ _ refl refl refl refl c.second_written.ensures refl refl c.requires

pub returns : goal.returns
returns c = c.joined.ensures ∙ word_of _ _ _ _ _ _ _ _ _ _ _ _ _ refl refl refl refl c.second_written.ensures refl refl
