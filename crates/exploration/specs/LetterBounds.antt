-- The letters of a table of points lie within the packing.
use Rattle.std.specs.Prelude.{ℕ, List, get_or}
use Rattle.window.specs.Perform.{WithinPacking}
use Rattle.blocks.specs.declared.PointEntry.{PointEntry}
use Rattle.blocks.specs.Held.{unused_point}
use Rattle.exploration.specs.Moves.{move_of, letter_of}

-- The fields of every letter that is performed lie within the packing.
abbrev pub AllWithin : List PointEntry → Type 0
AllWithin ps = (k b : ℕ) → WithinPacking (letter_of (move_of (get_or ps k unused_point) b))
