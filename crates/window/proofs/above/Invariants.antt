use Rattle.std.proofs.Common.{◌*◌, bit_or}
use Rattle.window.specs.Layout.{registers}
use Rattle.window.specs.Marks.{union_of}
use Rattle.base.proofs.Theory.Written.{WrittenUpTo}
use Rattle.window.proofs.above.Given as goal

abbrev pub invariant-loop-h : goal.invariant-loop-h
invariant-loop-h l = WrittenUpTo (λ k. bit_or (union_of l.t (registers * k) 1 registers) (union_of l.t k registers registers)) 0 registers l.h l.holders-items
