use Prim.Native.Nat.{◌*◌}
use lib.ListN.{drop}
use Rattle.streaming.specs.declared.Run.{Run}
use Rattle.streaming.proofs.Theory.SlotRun.{Standing}
use Rattle.streaming.proofs.by_slots.take_from.Given as goal

abbrev pub invariant-loop-high : goal.invariant-loop-high
invariant-loop-high l =
    let s = l.initial in
    (whole : Run) → Standing l.header s.slots s.fine s.count s.one s.two l.bytes whole
    → Standing l.header l.slots l.fine l.count l.one l.two (drop (2 * l.high-index) l.bytes) whole
