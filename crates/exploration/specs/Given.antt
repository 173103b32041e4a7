-- What the search is given: a macro that was read.
use Rattle.std.specs.Prelude.{◌≤◌}
use Rattle.grammar.specs.Limits.{most_points}
use Rattle.macros.specs.Points.{size_block}
use Rattle.grammar.specs.Grammar.{Macro, expanded}
use Rattle.grammar.specs.Spelled.{InOrder}

-- A macro in order, of no more points than SPEC 1.3 allows.
pub record Given : Type 0 where
  pub macro : Macro
  pub in_order : InOrder macro
  pub few : size_block (expanded macro) ≤ most_points
