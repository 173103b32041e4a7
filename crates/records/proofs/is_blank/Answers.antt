use Rattle.base.proofs.Theory.Choice.{decide}
use Rattle.records.specs.Records.{empty_line}
use Rattle.records.proofs.is_blank.Goals as goal

pub returns-then-line-eq0 : goal.returns-then-line-eq0
unfolding empty_line
returns-then-line-eq0 c = search (decide, c.word_in.ensures)

pub returns-else-line-eq0 : goal.returns-else-line-eq0
unfolding empty_line
returns-else-line-eq0 c = search decide
