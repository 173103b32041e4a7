use mathlib.Core.Path.{refl, ap₂}
use lib.Bits.{bit_or}
use Rattle.window.specs.Layout.{registers}
use Rattle.window.specs.Lines.{columns}
use Rattle.window.proofs.Theory.Lines.{columns_partition}
use Rattle.window.proofs.Theory.Through.{columns_span, merged_twice, masks_merged}
use Rattle.window.proofs.merge_masks.Goals as goal

pub returns : goal.returns
returns c =
    let p = c.requires in
    masks_merged registers _ _ _ _ _ _ _
    (merged_twice (columns registers) (columns_partition registers) _ _ _ p.0 _ _ _ _ (columns_span registers _ _ p.3 refl) p.2
    c.unite_column.ensures c.spread_column.ensures)
    (ap₂ bit_or c.single.ensures c.single-2.ensures) c.move_bits.ensures
