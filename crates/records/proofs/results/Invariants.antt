use Rattle.std.proofs.Common.{◌+◌, ◌*◌, get_or, replicate}
use Rattle.window.proofs.Theory.Table.{Swept}
use Rattle.records.specs.Records.{codes_at}
use Rattle.records.proofs.results.Given as goal

abbrev pub invariant-loop-j : goal.invariant-loop-j
invariant-loop-j l = Swept (λ k. get_or l.meanings (get_or (codes_at l.part) k 0) 0) 0 (replicate 256 0) (8 * l.j) l.results

abbrev pub invariant-loop-k : goal.invariant-loop-k
invariant-loop-k l = Swept (λ k. get_or l.meanings (get_or (codes_at l.part) k 0) 0) 0 (replicate 256 0) (8 * l.j + 2 * l.k) l.results
