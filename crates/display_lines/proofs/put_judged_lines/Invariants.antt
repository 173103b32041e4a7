use Rattle.std.proofs.Common.{◌≡◌, ◌-◌, ◌*◌}
use Rattle.display_lines.proofs.Theory.PrintsLaws.{LettersSoFar}
use Rattle.display_lines.proofs.put_judged_lines.Given as goal

abbrev pub invariant-loop-number : goal.invariant-loop-number
invariant-loop-number l =
    (l.writer.out.ghost_name ≡ l.fn.writer.out.ghost_name)
    × LettersSoFar l.fn.writer.out.now l.fn.writer.at l.bytes l.initial.m l.writer.out.now l.m l.writer.at (l.number - 1) (2 * l.number)
