use Rattle.tokens.specs.Bytes.{lower_case}
use Rattle.tokens.proofs.Theory.BytesLaws.{Keyed}
use Rattle.tokens.proofs.numbers_of.Given as goal

abbrev pub invariant-loop-at : goal.invariant-loop-at
invariant-loop-at l = Keyed (lower_case l.text) l.start l.end l.at l.key × Keyed l.text l.start l.end l.at l.spelling
