use Rattle.std.proofs.Common.{replicate}
use Rattle.window.proofs.Theory.Table.{Swept}
use Rattle.records.specs.Formats.{ever_mask}
use Rattle.records.specs.Records.{first_format, codes_at}
use Rattle.records.proofs.ever_lines.Given as goal

abbrev pub invariant-loop-j : goal.invariant-loop-j
invariant-loop-j l = Swept (ever_mask first_format (codes_at l.part)) 0 (replicate 32 0) l.j l.ever
