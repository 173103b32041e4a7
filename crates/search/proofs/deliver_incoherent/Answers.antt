use Rattle.search.proofs.Theory.Answering.{breaking_refused, breaking_shown}
use Rattle.search.proofs.deliver_incoherent.Goals as goal

pub returns-then-output-n : goal.returns-then-output-n
returns-then-output-n c = let a = c.args in rw c.at.ensures (breaking_refused a.packed.now a.count a.output.now c.requires c.if-output-n.true)

pub returns : goal.returns
returns c =
    let a = c.args in
    breaking_shown a.packed.now a.count a.output.now c.requires c.if-output-n.false c.write.new.output c.write.ensures
