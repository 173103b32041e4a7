-- What the program `layout` prints for a text (SPEC 12.6; document 02, request 2): the macro in the house layout (SPEC 8.6), or one refusal line.
use Rattle.std.specs.Prelude.{◌≡◌, List, ◌++◌, ℕ, ◌≤◌, leb, length, drop}
use Rattle.base.specs.Choice.{pick}
use Rattle.letters.specs.MacroRefusalNumbers.{print_too_long}
use Rattle.grammar.specs.Grammar.{Macro}
use Rattle.refusals.specs.Order.{Refusal}
use Rattle.refusals.specs.Accepted.{Accepted}
use Rattle.report.specs.Lines.{refused_line}
use Rattle.layout_theory.specs.Layout.{house_layout, longest_print}

-- What is printed of the macro of an accepted text: "Writers want a macro printed back"; or "15, given last, when the print passes [..] 4,096 bytes", which
-- are lent (SPEC 8.6, 11.3, 12.6).
abbrev pub print_lines : Macro → List ℕ
print_lines m = pick (leb (length (house_layout m)) longest_print) (λ _. house_layout m) λ _. refused_line print_too_long 0

-- The lines for a text (SPEC 12.6).
pub record SaysLayout (text lines : List ℕ) : Type 0 where
  -- a text that is refused, by 7 to 13 or 16 (SPEC 11.3)
  pub unread : (number place : ℕ) → Refusal text number place → lines ≡ refused_line number place
  -- a text that is that of the macro m (SPEC 8.6)
  pub print : (m : Macro) → Accepted text m → lines ≡ print_lines m

-- The lines are never longer: a refusal line is far shorter than the longest print.
abbrev pub most_layout_line_bytes : ℕ
most_layout_line_bytes = longest_print

-- A lent buffer holds `entry` and then `exit`, and `size` is given: the lines (SPEC 12.6) stand in front and the bytes behind them stay; or, in a buffer
-- of fewer than `most_layout_line_bytes`, all bytes stay, and 0 is given.
pub record PrintsLayoutLines (text entry : List ℕ) (size : ℕ) (exit : List ℕ) : Type 0 where
  pub lines : List ℕ
  pub says : SaysLayout text lines
  pub few : length lines ≤ most_layout_line_bytes
  pub given : size ≡ pick (leb most_layout_line_bytes (length entry)) (λ _. length lines) λ _. 0
  pub bytes : exit ≡ pick (leb most_layout_line_bytes (length entry)) (λ _. lines ++ drop (length lines) entry) λ _. entry
