use mathlib.Core.Path.{◌≡◌}
use Rattle.slots.specs.Performing.{pulled_of}
use Rattle.slots.proofs.pulled.Given as goal

abbrev pub invariant-loop-s : goal.invariant-loop-s
invariant-loop-s l = l.m ≡ pulled_of l.regs l.slots l.s
