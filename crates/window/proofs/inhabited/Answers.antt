use mathlib.Core.Path.{ap}
use lib.Dec.{ltb}
use Rattle.window.specs.Layout.{registers}
use Rattle.window.specs.Bits.{nonempty}
use Rattle.window.proofs.inhabited.Goals as goal

pub returns : goal.returns
unfolding nonempty
returns c = ap (λ n. ltb n registers) c.name.ensures
