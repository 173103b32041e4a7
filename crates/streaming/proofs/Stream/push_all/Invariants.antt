use Rattle.std.proofs.Common.{◌≡◌, drop}
use Rattle.streaming.specs.Stream.{pushed_all}
use Rattle.streaming.proofs.Stream.push_all.Given as goal

abbrev pub invariant-loop-i : goal.invariant-loop-i
invariant-loop-i l = pushed_all l.self (drop l.i l.bytes) ≡ pushed_all l.fn.self l.bytes
