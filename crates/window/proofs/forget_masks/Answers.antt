use Rattle.window.specs.Layout.{registers}
use Rattle.window.proofs.Theory.Adding.{forgotten_is}
use Rattle.window.proofs.forget_masks.Goals as goal

pub returns : goal.returns
returns c = forgotten_is registers _ _ _ _ _ c.single.ensures c.move_bits.ensures c.clear_column.ensures
