use Rattle.base.proofs.Theory.MaskLaws.{trailing_least}
use Rattle.window.specs.Layout.{registers}
use Rattle.window.proofs.name.Goals as goal

pub returns : goal.returns
returns c = trailing_least registers c.args.mask
