-- The name of the digits from i on.
use Rattle.display_lines.proofs.Theory.Digits.{NameFrom}
use Rattle.display_lines.proofs.digit_name.Given as goal

abbrev pub invariant-loop-i : goal.invariant-loop-i
invariant-loop-i l = NameFrom l.digits l.i l.name
