use Rattle.window.specs.Layout.{registers}
use Rattle.window.proofs.Theory.Adding.{renewed_is}
use Rattle.window.proofs.renew_results.Goals as goal

pub returns : goal.returns
returns c = renewed_is registers _ _ _ _ _ _ _ _ _ _ c.single-own.ensures c.move_bits.ensures c.add_results.ensures c.clear_column.ensures
    c.clear_row.ensures
