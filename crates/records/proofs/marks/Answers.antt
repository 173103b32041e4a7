use Rattle.std.proofs.Common.{rules, false}
use Rattle.records.specs.Records.{is_set}
use Rattle.records.proofs.Theory.Tables.{map_made}
use Rattle.records.proofs.marks.Goals as goal

pub returns : goal.returns
unfolding is_set
returns c =
    map_made is_set c.args.flags c.map.result 8 0 false (search rules) c.map.ensures.items.long λ i h.
    let (p, q, k) = c.map.ensures.items.at i 0 false h in
    search rules
