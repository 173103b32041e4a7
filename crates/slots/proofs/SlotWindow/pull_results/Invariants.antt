use Rattle.base.proofs.Theory.Written.{WrittenUpTo}
use Rattle.window.specs.Layout.{registers, results}
use Rattle.slots.specs.Performing.{pulled_of, entry_of}
use Rattle.slots.proofs.SlotWindow.pull_results.Given as goal

abbrev pub invariant-loop-k : goal.invariant-loop-k
invariant-loop-k l =
    let w = l.self in
    WrittenUpTo (λ i. pulled_of w.regs (entry_of registers w.slot w.regs w.result i) registers) 0 results l.k l.m-items
