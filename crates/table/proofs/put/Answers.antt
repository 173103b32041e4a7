use Rattle.std.proofs.Common.{List, ℕ, ◌*◌, ◌∙◌, ap, take, drop, ◌++◌}
use Rattle.records.specs.Records.{record_bytes, record_of}
use Rattle.table.specs.Table.{put_at}
use Rattle.base.proofs.Theory.Lent.{tail_lent, tail_back}
use Rattle.table.proofs.put.Goals as goal

pub returns : goal.returns
unfolding put_at
returns c =
    let a = c.args in
    let r = record_of a.pair a.parent a.branch in
    tail_back (record_bytes * a.k) a.table.now c.write.new.part ∙ ap (λ (l : List ℕ). take (record_bytes * a.k) a.table.now ++ l)
    (c.write.ensures ∙ ap (λ (l : List ℕ). r ++ drop record_bytes l) (tail_lent (record_bytes * a.k) a.table.now))
