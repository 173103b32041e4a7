use Rattle.std.proofs.Common.{sym, ◌∙◌}
use Rattle.semantics.specs.PackedTables.{second_written}
use Rattle.model_writer.proofs.second_written.Goals as goal

pub returns-then-takes_two : goal.returns-then-takes_two
unfolding second_written
returns-then-takes_two c = let e = sym c.takes_two.ensures ∙ c.if-takes_two.true in rw e

pub returns-else-takes_two : goal.returns-else-takes_two
unfolding second_written
returns-else-takes_two c = let e = sym c.takes_two.ensures ∙ c.if-takes_two.false in rw e
