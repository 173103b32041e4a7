use Rattle.std.proofs.Common.{◌≡◌}
use Rattle.window.specs.Layout.{registers}
use Rattle.window.specs.Marks.{beside_of}
use Rattle.window.proofs.beside.Given as goal

abbrev pub invariant-loop-h : goal.invariant-loop-h
invariant-loop-h l = l.m ≡ beside_of registers l.t l.x l.h
