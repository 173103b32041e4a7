use Rattle.std.proofs.Common.{arith}
use Rattle.window.specs.Rows.{joined_rows}
use Rattle.window.proofs.joined_rows.Goals as goal

pub returns-clause-value : goal.returns-clause-value
unfolding joined_rows
returns-clause-value c = omega arith
