use Rattle.std.proofs.Common.{arith}
use Rattle.tokens.proofs.Theory.TokensLaws.{one_stored, all_stored}
use Rattle.tokens.proofs.put_spellings.Goals as goal

pub loop-spelling-preserved : goal.loop-spelling-preserved
loop-spelling-preserved c =
    one_stored _ _ _ _ _ _ _ _ _ (omega (arith, c.loop-spelling.invariant.kept)) c.loop-spelling.invariant c.next.ensures c.skip_tokens-at.ensures

pub returns : goal.returns
returns c = all_stored _ _ _ _ _ _ _ (omega (arith, c.loop-spelling.invariant.kept)) c.loop-spelling.invariant
