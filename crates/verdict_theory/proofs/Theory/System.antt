-- States and moves between them, in which to search breadth first.
use mathlib.Core.Path.{◌≡◌}
use mathlib.Core.Option.{Option, none, some}
use Rattle.macros.specs.Order.{Branch, Path, root, ◌▹◌}
use Rattle.macros.proofs.Theory.Order.{AtOrBefore}

-- What a branch leads to: a next state, an event, or nothing, where there is no such branch or nothing follows it.
pub data BranchResult (S E : Type 0) : Type 0 where
  stop : BranchResult S E
  event : E → BranchResult S E
  next : S → BranchResult S E

abbrev pub begun : {S E : Type 0} → Option S → BranchResult S E
begun none = stop
begun (some s) = next s

module _ {S E : Type 0} (start : Option S) (move : S → Branch → BranchResult S E) where
  abbrev pub onto : BranchResult S E → Branch → BranchResult S E
  onto stop b = stop
  onto (event e) b = stop
  onto (next s) b = move s b

  -- What a path leads to.
  abbrev pub follow : Path → BranchResult S E
  follow root = begun start
  follow (p ▹ b) = onto (follow p) b

  -- The path leads to a state; two paths lead to the same; the path meets an event.
  abbrev pub Leads : Path → Type 0
  Leads p = (s : S) × (follow p ≡ next s)

  abbrev pub LeadAlike : Path → Path → Type 0
  LeadAlike p q = follow p ≡ follow q

  abbrev pub Meets : Path → Type 0
  Meets p = (e : E) × (follow p ≡ event e)

  -- The first event: every other comes after it.
  pub record FirstMet (p : Path) (e : E) : Type 0 where
    pub happens : follow p ≡ event e
    pub least : (q : Path) (d : E) → follow q ≡ event d → AtOrBefore p q
