use Rattle.window.specs.Layout.{registers}
use Rattle.window.proofs.Theory.Through.{results_copied}
use Rattle.window.proofs.copy_results.Goals as goal

pub returns : goal.returns
returns c = results_copied registers _ _ _ _ _ _ _ _ c.unite_column.ensures c.unite_row.ensures c.single.ensures c.single-2.ensures c.move_bits.ensures
