use Rattle.base.proofs.Theory.MaskLaws.{ones_size}
use Rattle.window.specs.Layout.{registers}
use Rattle.window.proofs.size.Goals as goal

pub returns : goal.returns
returns c = ones_size registers c.args.mask c.ranges.mask.fits
