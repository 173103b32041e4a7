use Rattle.model_writer.proofs.Theory.Listing.{ListedBelow}
use Rattle.model_writer.proofs.list.Given as goal

abbrev pub invariant-loop-i : goal.invariant-loop-i
invariant-loop-i l = let t = l.terms in
    ListedBelow t.representative t.function t.first t.second t.registers t.count l.i l.index.head l.index.link l.rows l.r
