-- Pairs of all partial executions: SPEC 10.2 speaks of coherent ones, and what stands behind an incoherent letter comes after an event.
use Rattle.std.specs.Prelude.{◌≡◌, ℕ, ◌<◌}
use Rattle.semantics.specs.Terms.{Trace}
use Rattle.macros.specs.Tree.{Block}
use Rattle.macros.specs.Order.{Path}
use Rattle.macros.specs.Walk.{at, stand}
use Rattle.macros.specs.Points.{size_block, run}

-- A pair as any partial execution leaves it, coherent or not.
pub record LeavesAny (start : Trace) (m : Block) (p : Path) : Type 0 where
  pub point : ℕ
  pub trace : Trace
  pub stands : run start m p ≡ stand (at point) trace
  pub due : point < size_block m
