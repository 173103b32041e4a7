use Rattle.base.proofs.Theory.Written.{WrittenUpTo}
use Rattle.window.specs.Layout.{registers}
use Rattle.unequal_flags.specs.Words.{named_row}
use Rattle.unequal_flags.proofs.named_rows.Given as goal

abbrev pub invariant-loop-a : goal.invariant-loop-a
invariant-loop-a l = WrittenUpTo (named_row registers l.class l.unequal) 0 registers l.a l.row-items
