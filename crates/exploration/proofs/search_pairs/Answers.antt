use Rattle.base.proofs.Theory.Choice.{decide}
use Rattle.exploration.specs.Exploring.{search_of}
use Rattle.exploration.proofs.Theory.ExploringLaws.{search_goes}
use Rattle.exploration.proofs.search_pairs.Goals as goal

pub returns-then-end-eq0-clause-value : goal.returns-then-end-eq0-clause-value
unfolding search_of
returns-then-end-eq0-clause-value c = search decide

pub returns-then-end-eq0-clause-table : goal.returns-then-end-eq0-clause-table
unfolding search_of
returns-then-end-eq0-clause-table c = search decide

pub returns-then-n-eq0-clause-value : goal.returns-then-n-eq0-clause-value
unfolding search_of
returns-then-n-eq0-clause-value c = search decide

pub returns-then-n-eq0-clause-table : goal.returns-then-n-eq0-clause-table
unfolding search_of
returns-then-n-eq0-clause-table c = search decide

pub returns-clause-value : goal.returns-clause-value
returns-clause-value c =
    let a = c.args in
    (search_goes a.header a.points a.end a.n a.table.now c.if-end-eq0.false c.if-n-eq0.false c.fresh.result c.encode-pair.result c.put.new.table
    c.fresh.ensures c.encode-pair.ensures c.put.ensures c.explore.result c.explore.new.table c.explore.ensures.value c.explore.ensures.table).0

pub returns-clause-table : goal.returns-clause-table
returns-clause-table c =
    let a = c.args in
    (search_goes a.header a.points a.end a.n a.table.now c.if-end-eq0.false c.if-n-eq0.false c.fresh.result c.encode-pair.result c.put.new.table
    c.fresh.ensures c.encode-pair.ensures c.put.ensures c.explore.result c.explore.new.table c.explore.ensures.value c.explore.ensures.table).1
