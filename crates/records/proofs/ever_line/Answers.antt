use Rattle.records.proofs.Turns.{ever_is}
use Rattle.records.proofs.ever_line.Goals as goal

pub returns : goal.returns
returns c =
    ever_is c.args.part.now c.requires.0 c.args.j _ _ _ _ c.requires.1 c.computed.ensures.value c.computed-2.ensures.value c.computed-3.ensures.value
    c.computed-4.ensures.value
