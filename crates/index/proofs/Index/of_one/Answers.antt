use Rattle.index.proofs.Theory.IndexLaws.{index_begins}
use Rattle.index.proofs.Index.of_one.Goals as goal

pub returns : goal.returns
returns c t = index_begins t
