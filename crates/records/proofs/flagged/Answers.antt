use Rattle.std.proofs.Common.{◌∙◌}
use Rattle.records.proofs.Turns.{flag-bool}
use Rattle.records.proofs.flagged.Goals as goal

pub returns : goal.returns
returns c = c.from.ensures ∙ flag-bool c.args.b
