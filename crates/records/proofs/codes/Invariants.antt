use Rattle.std.proofs.Common.{◌+◌, ◌*◌, replicate}
use Rattle.window.proofs.Theory.Table.{Swept}
use Rattle.records.proofs.Turns.{code_byte}
use Rattle.records.proofs.codes.Given as goal

abbrev pub invariant-loop-j : goal.invariant-loop-j
invariant-loop-j l = Swept (code_byte l.res l.ever) 0 (replicate 128 0) (4 * l.j) l.codes

abbrev pub invariant-loop-k : goal.invariant-loop-k
invariant-loop-k l = Swept (code_byte l.res l.ever) 0 (replicate 128 0) (4 * l.j + l.k) l.codes
