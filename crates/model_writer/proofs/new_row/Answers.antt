use Rattle.std.proofs.Common.{arith}
use Rattle.closure.proofs.Theory.Entering.{readable}
use Rattle.model_writer.proofs.Theory.Rows.{row_readable, new_row_is}
use Rattle.model_writer.proofs.new_row.Goals as goal

pub signature_at-c-requires : goal.signature_at-c-requires
signature_at-c-requires c = row_readable _ _ _ _ _ _ c.requires.0 c.requires.1 _ _ c.requires.2

pub enter-requires : goal.enter-requires
enter-requires c = (
  readable _ c.requires.0 c.requires.1 (omega arith),
  (row_readable _ _ _ _ _ _ c.requires.0 c.requires.1 _ _ c.requires.2).0,
  c.requires.2.chains,
)

pub returns : goal.returns
returns c = new_row_is _ _ _ _ _ _ c.requires.0 c.requires.1 _ _ c.requires.2 _ _ c.signature_at-c.ensures _ _ c.enter.ensures
