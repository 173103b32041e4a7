use Rattle.std.proofs.Common.{take}
use Rattle.semantics.specs.PackedTables.{word_bytes}
use Rattle.model_writer.proofs.Theory.Bytes.{UnitsDone}
use Rattle.model_writer.proofs.Model.write_starts.Given as goal

abbrev pub invariant-loop-i : goal.invariant-loop-i
invariant-loop-i l = UnitsDone word_bytes l.at (take l.registers l.self.values) l.fn.out l.out l.i
