use mathlib.Core.Path.{◌≡◌}
use Rattle.window.specs.Layout.{registers}
use Rattle.slots.specs.Performing.{used_of}
use Rattle.slots.proofs.used.Given as goal

abbrev pub invariant-loop-s : goal.invariant-loop-s
invariant-loop-s l = l.m ≡ used_of registers l.regs l.s
