use Rattle.std.proofs.Common.{◌≡◌}
use Rattle.window.specs.Layout.{registers}
use Rattle.window.specs.Marks.{below_of}
use Rattle.window.proofs.below.Given as goal

abbrev pub invariant-loop-h : goal.invariant-loop-h
invariant-loop-h l = l.m ≡ below_of registers l.up l.s l.h
