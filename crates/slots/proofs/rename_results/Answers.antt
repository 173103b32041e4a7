use Rattle.window.specs.Layout.{registers}
use Rattle.slots.proofs.Theory.Loops.{results-renamed}
use Rattle.slots.proofs.rename_results.Goals as goal

pub returns : goal.returns
returns g c =
    results-renamed registers _ _ _ _ _ _ _ _ _ _ c.unite_column.ensures c.unite_row.ensures c.single.ensures c.single-2.ensures c.single-3.ensures
    c.move_bits.ensures c.drop_results.ensures
