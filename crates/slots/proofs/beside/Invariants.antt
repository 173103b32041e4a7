use mathlib.Core.Path.{◌≡◌}
use Rattle.window.specs.Layout.{registers}
use Rattle.slots.specs.Performing.{beside_slots}
use Rattle.slots.proofs.beside.Given as goal

abbrev pub invariant-loop-h : goal.invariant-loop-h
invariant-loop-h l = l.m ≡ beside_slots registers l.around l.s l.h
