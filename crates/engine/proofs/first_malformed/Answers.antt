use Rattle.engine.proofs.Theory.ReadingLaws.{decoded_at, following_start, following_turn, following_bad, following_end}
use Rattle.engine.proofs.first_malformed.Goals as goal

pub loop-i-init : goal.loop-i-init
loop-i-init c = following_start _ _ _ c.requires _

pub returns-in_default : goal.returns-in_default
returns-in_default c = following_bad _ _ _ c.requires _ _ c.loop-i.invariant c.loop-i-test.true _ (decoded_at _ _ _ c.requires _ _
    c.decode_letter-decoded.result c.loop-i-test.true c.word.ensures c.decode_letter-decoded.ensures) c.in_default.is

pub loop-i-preserved : goal.loop-i-preserved
loop-i-preserved c = following_turn _ _ _ c.requires _ _ c.loop-i.invariant c.loop-i-test.true _ (decoded_at _ _ _ c.requires _ _
    c.decode_letter-decoded.result c.loop-i-test.true c.word.ensures c.decode_letter-decoded.ensures) c.in-Some.is

pub returns : goal.returns
returns c = following_end _ _ _ c.requires _ _ c.loop-i.invariant c.loop-i-test.false
