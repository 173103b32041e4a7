use Prim.Native.Nat.{ℕ, ◌+◌, ◌*◌, ◌/◌, ◌%◌}
use lib.Bits.{bit_or}
use Rattle.base.proofs.Theory.Written.{WrittenUpTo}
use Rattle.window.specs.Layout.{registers, functions, register_pairs}
use Rattle.window.specs.Marks.{union_of}
use Rattle.slots.proofs.make_around.Given as goal

abbrev pub invariant-loop-i : goal.invariant-loop-i
invariant-loop-i l =
    let entry = λ (k : ℕ). union_of l.res k register_pairs functions in
    WrittenUpTo (λ k. bit_or (entry k) (entry (registers * (k % registers) + k / registers))) 0 register_pairs l.i l.m-items
