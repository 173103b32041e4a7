use Rattle.std.proofs.Common.{arith, ◌∙◌}
use Rattle.records.proofs.Turns.{mix_turn, mix_all}
use Rattle.records.proofs.fingerprint.Goals as goal

pub loop-i-preserved : goal.loop-i-preserved
loop-i-preserved c =
    mix_turn c.args.content.now c.loop-i.mixed _ c.loop-i.i _ (omega arith) (omega arith) c.rotate_left.ensures c.word_in.ensures ∙ c.loop-i.invariant

pub returns : goal.returns
returns c = mix_all c.args.content.now c.loop-i.mixed c.loop-i.i (omega arith) c.loop-i.invariant
