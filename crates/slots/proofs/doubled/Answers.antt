use native.Mathlib.Omega.{arith}
use Rattle.window.specs.Layout.{registers}
use Rattle.slots.proofs.Theory.Loops.{doubled_all}
use Rattle.slots.proofs.doubled.Goals as goal

pub returns : goal.returns
returns c = doubled_all registers _ _ _ _ (omega arith) (omega (arith, c.loop-m-test.false)) c.loop-m.invariant
