use Rattle.std.proofs.Common.{◌≡◌, true, false, sym, ◌∙◌}
use Rattle.base.specs.Masks.{has}
use Rattle.semantics.specs.PackedTables.{second_written}
use Rattle.report.proofs.Declared.second_printed.Goals as goal

pub returns-then-takes_two : goal.returns-then-takes_two
unfolding second_written
returns-then-takes_two c =
    let e : has c.args.self.now.header.binary c.args.function ≡ true = sym c.takes_two.ensures ∙ c.if-takes_two.true in rw e

pub returns-else-takes_two : goal.returns-else-takes_two
unfolding second_written
returns-else-takes_two c =
    let e : has c.args.self.now.header.binary c.args.function ≡ false = sym c.takes_two.ensures ∙ c.if-takes_two.false in rw e
