use Rattle.std.proofs.Common.{◌≡◌, ◌*◌, drop}
use Rattle.streaming.specs.Stream.{taken_all}
use Rattle.streaming.proofs.Run.take_each.Given as goal

abbrev pub invariant-loop-high : goal.invariant-loop-high
invariant-loop-high l = taken_all l.self (drop (2 * l.high-index) l.bytes) ≡ taken_all l.fn.self l.bytes
