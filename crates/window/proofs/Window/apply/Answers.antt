use Rattle.window.specs.Layout.{registers, functions}
use Rattle.window.proofs.Theory.Performing.{apply_known, apply_new}
use Rattle.window.proofs.Window.apply.Goals as goal

pub returns-then-held-lt-REGISTERS : goal.returns-then-held-lt-REGISTERS
returns-then-held-lt-REGISTERS c = apply_known registers functions c.args.self.now _ _ _ _ _ _ c.name-held.ensures c.if-held-lt-REGISTERS.true c.copy.ensures

pub returns-else-held-lt-REGISTERS : goal.returns-else-held-lt-REGISTERS
returns-else-held-lt-REGISTERS c = apply_new registers functions c.args.self.now _ _ _ _ _ _ c.name-held.ensures c.if-held-lt-REGISTERS.false c.compute.ensures
