use lib.ListN.{length}
use Rattle.base.proofs.Theory.Written.{WrittenUpTo}
use Rattle.window.specs.Layout.{registers}
use Rattle.slots.specs.Performing.{pulled_at}
use Rattle.slots.proofs.SlotWindow.pull_masks.Given as goal

abbrev pub invariant-loop-k : goal.invariant-loop-k
invariant-loop-k l = WrittenUpTo (pulled_at registers l.self.slot l.self.regs l.t) 0 (length l.t) l.k l.next
