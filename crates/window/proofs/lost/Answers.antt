use Rattle.window.specs.Layout.{registers, functions}
use Rattle.window.proofs.Theory.Marks.{lost_is}
use Rattle.window.proofs.lost.Goals as goal

pub returns : goal.returns
returns c = lost_is registers functions _ _ _ _ _ _ _ _ _ _ c.folded-t.ensures c.above-up.ensures c.single.ensures c.below.ensures c.beside.ensures
    c.flag.ensures c.raised.ensures
