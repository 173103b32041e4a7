use Rattle.std.proofs.Common.{length}
use Rattle.tokens.proofs.Theory.TokensLaws.{StoredSpellings}
use Rattle.tokens.proofs.put_spellings.Given as goal

abbrev pub invariant-loop-spelling : goal.invariant-loop-spelling
invariant-loop-spelling l = StoredSpellings l.text l.from l.step (length l.initial.spelling-items) l.at l.spelling-index l.spelling-items
