use Rattle.std.proofs.Common.{rules, false}
use Rattle.records.specs.Records.{flag}
use Rattle.records.proofs.Theory.Tables.{map_made}
use Rattle.records.proofs.flags.Goals as goal

pub returns : goal.returns
returns c =
    map_made flag c.args.marks c.map.result 8 false 0 (search rules) c.map.ensures.items.long λ i h.
    let (p, q, k) = c.map.ensures.items.at i false 0 h in
    search rules
