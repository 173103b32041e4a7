use Rattle.search.proofs.Theory.TracingLaws.{letter_is}
use Rattle.search.proofs.letter_at.Goals as goal

pub returns : goal.returns
returns c =
    let a = c.args in
    letter_is a.points.now a.table.now a.j a.branch c.point_at.result c.letter_of.result c.point_at.ensures c.letter_of.ensures
