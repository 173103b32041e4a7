use Rattle.window.specs.Layout.{registers}
use Rattle.slots.proofs.Theory.Loops.{masks-renamed}
use Rattle.slots.proofs.rename_masks.Goals as goal

pub returns : goal.returns
returns c =
    masks-renamed registers _ _ _ _ _ _ _ _ _ c.unite_column.ensures c.single.ensures c.single-2.ensures c.single-3.ensures c.move_bits.ensures
    c.forget_masks.ensures
