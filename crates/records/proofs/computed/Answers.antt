use Rattle.std.proofs.Common.{arith}
use Rattle.records.proofs.Turns.{tested}
use Rattle.records.proofs.computed.Goals as goal

pub returns-clause-value : goal.returns-clause-value
returns-clause-value c =
    let b = c.args.both in
    tested b c.from.result c.from-2.result (omega arith) c.from.ensures c.from-2.ensures
