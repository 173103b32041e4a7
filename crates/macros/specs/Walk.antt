-- Walks, letter by letter: places, the branches at each place, and where a path leads (SPEC 9.4).
use Rattle.letters.specs.declared.Letter.{Letter}
use Rattle.semantics.specs.Terms.{Trace, ◌▸◌}
use Rattle.macros.specs.Order.{Branch, Path, root, ◌▹◌}

-- Where a walk stands: at a point or the end, or at a failure.
pub data Place (A : Type 0) : Type 0 where
  at : A → Place A
  failure : Place A

-- A letter, and where it leads; or there is no such branch.
pub data Move (A : Type 0) : Type 0 where
  no_move : Move A
  move : Letter → Place A → Move A

-- Where a walk has come to, and the letters so far; or there is no such walk.
pub data Stand (A : Type 0) : Type 0 where
  nowhere : Stand A
  stand : Place A → Trace → Stand A

abbrev pub take_move : {A : Type 0} → Trace → Move A → Stand A
take_move ρ no_move = nowhere
take_move ρ (move a l) = stand l (ρ ▸ a)

module _ {A : Type 0} (moves : A → Branch → Move A) where
  abbrev pub take_branch : Stand A → Branch → Stand A
  take_branch nowhere b = nowhere
  take_branch (stand failure ρ) b = nowhere
  take_branch (stand (at k) ρ) b = take_move ρ (moves k b)

  -- The walk that takes the branches of a path, from a place and a trace on.
  abbrev pub walk : A → Trace → Path → Stand A
  walk origin start root = stand (at origin) start
  walk origin start (p ▹ b) = take_branch (walk origin start p) b
