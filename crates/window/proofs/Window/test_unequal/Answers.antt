use Rattle.window.specs.Layout.{registers, functions}
use Rattle.window.proofs.Theory.Performing.{unequal_is}
use Rattle.window.proofs.Window.test_unequal.Goals as goal

pub returns : goal.returns
returns c = unequal_is registers functions c.args.self.now _ _ _ _ _ c.parted-self.ensures c.holds.ensures c.settle.ensures
