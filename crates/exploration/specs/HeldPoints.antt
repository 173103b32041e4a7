-- The branches of a point as the reader holds it, as moves (SPEC 9.4).
use Rattle.std.specs.Prelude.{ℕ}
use Rattle.macros.specs.Walk.{at, failure, Move, no_move, move}
use Rattle.exploration.specs.declared.PointMove as enum
use Rattle.exploration.specs.declared.PointMove.TheVariants.{Nothing, Goes, Fails}

-- ── the branches of a point as it is stored ──
abbrev pub meant : enum.PointMove → Move ℕ
meant Nothing = no_move
meant (Goes a k) = move a (at k)
meant (Fails a) = move a failure
