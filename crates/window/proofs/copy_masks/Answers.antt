use Rattle.window.specs.Layout.{registers}
use Rattle.window.proofs.Theory.Through.{masks_copied}
use Rattle.window.proofs.copy_masks.Goals as goal

pub returns : goal.returns
returns c = masks_copied registers _ _ _ _ _ _ _ c.unite_column.ensures c.single.ensures c.single-2.ensures c.move_bits.ensures
