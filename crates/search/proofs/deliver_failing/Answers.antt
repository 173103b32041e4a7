use Rattle.std.proofs.Common.{subst, drop}
use Rattle.search.specs.Modelling.{ModelWrittenBehind}
use Rattle.search.proofs.Theory.Answering.{failing_refused, failing_shown, failing_unfit}
use Rattle.search.proofs.deliver_failing.Goals as goal

pub returns-then-output-n : goal.returns-then-output-n
returns-then-output-n c = let a = c.args in rw c.at.ensures (failing_refused a.packed.now a.count a.output.now c.requires c.if-output-n.true)

pub returns-then-not-show_behind : goal.returns-then-not-show_behind
returns-then-not-show_behind c =
    let a = c.args in
    let m = c.show_behind in
    rw c.at-then-not-show_behind.ensures (failing_unfit a.packed.now a.count a.output.now c.requires c.if-output-n.false m.new.output
    (subst (λ f. ModelWrittenBehind (drop a.packed.now.start a.packed.now.bytes) a.output.now f m.new.output) c.if-not-show_behind.true m.ensures))

pub returns : goal.returns
returns c =
    let a = c.args in
    let m = c.show_behind in
    failing_shown a.packed.now a.count a.output.now c.requires c.if-output-n.false m.new.output
    (subst (λ f. ModelWrittenBehind (drop a.packed.now.start a.packed.now.bytes) a.output.now f m.new.output) c.if-not-show_behind.false m.ensures)
    c.write.new.output c.write.ensures
