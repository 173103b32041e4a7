use Rattle.window.specs.Layout.{registers, functions}
use Rattle.window.specs.Bits.{minus}
use Rattle.window.proofs.Theory.Performing.{rest_some, rest_none}
use Rattle.window.proofs.rest.Goals as goal

pub returns-then-one-lt-REGISTERS : goal.returns-then-one-lt-REGISTERS
unfolding minus
returns-then-one-lt-REGISTERS c = rest_some registers functions _ _ _ c.name-one.ensures c.if-one-lt-REGISTERS.true

pub returns : goal.returns
unfolding minus
returns c = rest_none registers functions _ _ _ c.name-one.ensures c.if-one-lt-REGISTERS.false
