use mathlib.Core.Path.{refl, ap, ap₂, ◌∙◌}
use lib.Bits.{bit_or}
use lib.ListN.{length}
use Rattle.window.specs.Layout.{registers, functions, lines}
use Rattle.window.specs.Lines.{columns, rows}
use Rattle.window.proofs.Theory.Lines.{columns_partition, rows_partition, united_length}
use Rattle.window.proofs.Theory.Through.{columns_span, rows_span, merged_twice, results_merged, whole}
use Rattle.window.proofs.merge_results.Goals as goal

pub returns : goal.returns
returns c =
    let p = c.requires in
    let m = merged_twice (columns registers) (columns_partition registers) _ _ _ p.0 _ _ _ _
    (columns_span registers _ _ (whole registers lines c.args.t.now p.3) refl) p.2 c.unite_column.ensures c.spread_column.ensures in
    results_merged registers _ _ _ _ _ _ _ _ m
    (merged_twice (rows registers) (rows_partition registers) _ _ _ p.0 _ _ _ _
    (rows_span registers functions _ (ap length m ∙ united_length (columns registers) _ _ _ _ ∙ p.3))
    p.2 c.unite_row.ensures c.spread_row.ensures)
    (ap₂ bit_or c.single.ensures c.single-2.ensures) c.move_bits.ensures
