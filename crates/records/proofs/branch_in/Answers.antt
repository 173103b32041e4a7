use Rattle.std.proofs.Common.{rules, sym, ◌∙◌}
use Rattle.records.specs.Records.{branch_in}
use Rattle.records.proofs.Turns.{number_one}
use Rattle.records.proofs.branch_in.Goals as goal

pub returns : goal.returns
unfolding branch_in
returns c = c.from.ensures ∙ sym (number_one c.args.part.now 2 (search rules))
