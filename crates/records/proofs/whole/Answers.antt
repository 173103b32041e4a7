use Rattle.std.proofs.Common.{rules}
use Rattle.records.proofs.Turns.{record_made}
use Rattle.records.proofs.whole.Goals as goal

pub returns : goal.returns
returns c =
    record_made c.number_bytes.result c.args.pair.now c.lay.new.bytes c.lay-2.new.bytes c.args.parent c.args.branch (search rules)
    c.number_bytes.ensures c.lay.ensures.bytes_after c.lay-2.ensures.bytes_after
