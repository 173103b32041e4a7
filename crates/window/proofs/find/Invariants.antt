use Rattle.std.proofs.Common.{◌≡◌, ◌-◌}
use Rattle.window.specs.Layout.{registers, functions, results}
use Rattle.window.specs.Performing.{find_of}
use Rattle.window.proofs.find.Given as goal

abbrev pub invariant-loop-entry : goal.invariant-loop-entry
invariant-loop-entry l = find_of registers functions l.class l.res l.entry-index (results - l.entry-index)
    ≡ find_of registers functions l.class l.res 0 results
