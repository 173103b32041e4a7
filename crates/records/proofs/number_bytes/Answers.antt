use Rattle.std.proofs.Common.{◌∙◌}
use Rattle.records.proofs.Turns.{number_units}
use Rattle.records.proofs.number_bytes.Goals as goal

pub returns : goal.returns
returns c = c.to_be_bytes.ensures ∙ number_units c.args.number
