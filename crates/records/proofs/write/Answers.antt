use Rattle.std.proofs.Common.{rules}
use Rattle.records.proofs.Turns.{write_made}
use Rattle.records.proofs.write.Goals as goal

pub returns : goal.returns
returns c = write_made c.whole.result _ c.args.part.now c.lay.new.bytes (search rules) c.whole.ensures c.lay.ensures.bytes_after
