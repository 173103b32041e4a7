use Rattle.std.proofs.Common.{◌≡◌, ◌-◌, length}
use Rattle.grammar.specs.Grammar.{Macro}
use Rattle.refusals.specs.Accepted.{Accepted}
use Rattle.layout_theory.specs.Layout.{house_layout}
use Rattle.layout_writer.proofs.Theory.Printing.{LeftToPrint, WithinBounds}
use Rattle.layout_writer.proofs.put_tokens.Given as goal

abbrev pub invariant-loop-at : goal.invariant-loop-at
invariant-loop-at l =
    (l.writer.out.ghost_name ≡ l.fn.writer.out.ghost_name)
    × ((m : Macro) → Accepted l.text m → LeftToPrint l.text (house_layout m) l.fn.writer.out.now l.at l.follows l.writer.out.now l.writer.at)
    × WithinBounds l.text l.at l.writer.at

abbrev pub decreases-loop-at : goal.decreases-loop-at
decreases-loop-at l = length l.text - l.at
