use Rattle.std.proofs.Common.{rules, arith}
use Rattle.records.proofs.Turns.{number_two}
use Rattle.records.proofs.number_in.Goals as goal

pub returns : goal.returns
returns c = omega (arith, number_two c.args.part.now c.args.at (search rules), c.from.ensures, c.from_be_bytes.ensures)
