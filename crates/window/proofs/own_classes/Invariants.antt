use Rattle.window.specs.Layout.{registers}
use Rattle.window.specs.Performing.{own_of}
use Rattle.base.proofs.Theory.Written.{WrittenUpTo}
use Rattle.window.proofs.own_classes.Given as goal

abbrev pub invariant-loop-r : goal.invariant-loop-r
invariant-loop-r l = WrittenUpTo (own_of l.count) 0 registers l.r l.class-items
