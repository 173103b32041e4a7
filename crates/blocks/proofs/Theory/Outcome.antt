-- What follows from the definitions of specs/Outcome.antt.
use Prim.Native.Nat.{ℕ, ◌+◌}
use mathlib.Core.List.{List, [], ◌∷◌, ◌++◌}
use mathlib.Core.Option.{Option, none, some}
use Rattle.base.specs.Each.{each}
use Rattle.letters.specs.declared.Letter.{Letter}
use Rattle.grammar.specs.Tree.{Condition}
use Rattle.grammar.specs.Expanded.{application}
use Rattle.phrases.specs.Codes.{test_of}
use Rattle.blocks.specs.Held.{Progress, unknown, within}
use Rattle.blocks.specs.declared.PointKind.{PointKind}
use Rattle.blocks.specs.declared.PointEntry.{PointEntry}
use Rattle.blocks.specs.Outcome.{begins, changed_to, waiting, applying, forked}

abbrev pub with_points : Progress → List PointEntry → Progress
with_points q ps = record { ok = q.ok; refusal = q.refusal; at = q.at; count = q.count; points = ps }

abbrev pub changed : Progress → ℕ → List PointEntry → Progress
changed q n ps = with_points q (changed_to q.count n ps q.points)

-- a statement whose points are numbered from `to` on follows the points from `from` on
unfoldable pub joined : Progress → ℕ → ℕ → Progress
joined q from to = changed q to (each (within from to to) q.points)

-- the point of an if's test, once its blocks are read
unfoldable pub branched : Progress → ℕ → ℕ → Progress
branched q test mid = changed q test (forked q.points test (begins (test + 1) mid unknown) (begins mid q.count unknown))

-- the point of a while's test, once its block is read; `back` follows the block
unfoldable pub looped : Progress → ℕ → ℕ → Progress
looped q test back = changed q test (forked (each (within (test + 1) q.count back) q.points) test (begins (test + 1) q.count back) unknown)

-- ---- the points of a condition

-- the point that performs a letter before the test, if there is one
abbrev pub lead : Option Letter → ℕ → List PointEntry
lead none base = []
lead (some a) base = applying a base ∷ []

-- and the test's point, of a kind, behind n declared registers
abbrev pub condition_code : PointKind → ℕ → Condition → ℕ → List PointEntry
condition_code k n c base = lead (application n c) base ++ waiting k (test_of n c) ∷ []
