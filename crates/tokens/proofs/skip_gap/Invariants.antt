use Rattle.tokens.proofs.Theory.BytesLaws.{Gap}
use Rattle.tokens.proofs.skip_gap.Given as goal

abbrev pub invariant-loop-at : goal.invariant-loop-at
invariant-loop-at l = Gap l.text l.from l.at l.comment
