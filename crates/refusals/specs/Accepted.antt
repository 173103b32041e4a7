-- What a text is (SPEC 8, 11.3): the text of one macro, or refused by one number at one place.
-- Neither is said through the reader: `Accepted` here and `Refusal` (Order) are all that a claim about a text needs.
use Rattle.std.specs.Prelude.{ℕ, ◌≤◌, List, length}
use Rattle.macros.specs.Points.{size_block}
use Rattle.grammar.specs.Limits.{longest_text, most_points}
use Rattle.grammar.specs.Grammar.{Macro, expanded}
use Rattle.grammar.specs.Spelled.{Spelled, InOrder}

-- The text is that of the macro m: its tokens are the sentence of m, and length, declarations, uses, depth and points are in order (SPEC 8, 11.3).
pub record Accepted (text : List ℕ) (m : Macro) : Type 0 where
  pub short : length text ≤ longest_text
  pub spelled : Spelled text m
  pub in_order : InOrder m
  pub few : size_block (expanded m) ≤ most_points
