use Rattle.base.proofs.Theory.Choice.{decide}
use Rattle.base.proofs.Theory.MaskLaws.{trailing_least}
use Rattle.records.specs.Codes.{code_of}
use Rattle.records.proofs.code.Goals as goal

pub returns-then-mask-eq0-clause-value : goal.returns-then-mask-eq0-clause-value
unfolding code_of
returns-then-mask-eq0-clause-value c = search decide

pub returns-else-mask-eq0-clause-value : goal.returns-else-mask-eq0-clause-value
unfolding code_of
returns-else-mask-eq0-clause-value c = search (decide, trailing_least)
