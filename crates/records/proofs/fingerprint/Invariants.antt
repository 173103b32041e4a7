use Rattle.std.proofs.Common.{◌≡◌, ◌*◌, ◌-◌, drop}
use Rattle.records.specs.Formats.{mixed}
use Rattle.records.specs.Words.{words_in}
use Rattle.records.proofs.fingerprint.Given as goal

abbrev pub invariant-loop-i : goal.invariant-loop-i
invariant-loop-i l = mixed l.mixed (words_in (19 - l.i) (drop (8 * l.i) l.content)) ≡ mixed 0 (words_in 19 l.content)
