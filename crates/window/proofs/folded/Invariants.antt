use Rattle.window.specs.Layout.{functions, register_pairs}
use Rattle.window.specs.Marks.{union_of}
use Rattle.base.proofs.Theory.Written.{WrittenUpTo}
use Rattle.window.proofs.folded.Given as goal

abbrev pub invariant-loop-i : goal.invariant-loop-i
invariant-loop-i l = WrittenUpTo (λ k. union_of l.res k register_pairs functions) 0 register_pairs l.i l.classes-items
