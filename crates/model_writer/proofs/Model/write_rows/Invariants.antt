use Rattle.semantics.specs.PackedTables.{row_bytes}
use Rattle.model_writer.specs.Structs.{words_of}
use Rattle.model_writer.proofs.Theory.Bytes.{UnitsDone}
use Rattle.model_writer.proofs.Model.write_rows.Given as goal

abbrev pub invariant-loop-k : goal.invariant-loop-k
invariant-loop-k l = UnitsDone row_bytes l.at (words_of l.header l.terms l.self) l.fn.out l.out l.k
