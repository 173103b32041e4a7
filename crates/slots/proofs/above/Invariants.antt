use Rattle.base.proofs.Theory.Written.{WrittenUpTo}
use Rattle.window.specs.Layout.{registers}
use Rattle.window.specs.Marks.{union_of}
use Rattle.slots.proofs.above.Given as goal

abbrev pub invariant-loop-h : goal.invariant-loop-h
invariant-loop-h l = WrittenUpTo (λ k. union_of l.around k registers registers) 0 registers l.h l.m-items
