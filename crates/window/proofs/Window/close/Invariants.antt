use Rattle.std.proofs.Common.{◌≡◌, ◌+◌, ◌-◌}
use Rattle.window.specs.Layout.{registers, functions, register_pairs}
use Rattle.window.specs.Performing.{closed_of}
use Rattle.window.proofs.Window.close.Given as goal

abbrev pub invariant-loop-turn : goal.invariant-loop-turn
invariant-loop-turn l = closed_of registers functions (register_pairs + 1 - l._turn) l.self
    ≡ closed_of registers functions (register_pairs + 1) l.fn.self
