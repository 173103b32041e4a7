use Rattle.std.proofs.Common.{ap, sym, ◌∙◌, Ok}
use lib.ListN.{take}
use Rattle.files.specs.Lines.{bytes}
use Rattle.files.proofs.Theory.LinesLaws.{take_least}
use Rattle.model_lines.specs.Answered.{Rest, odd_read, known_long}
use Rattle.model_lines.proofs.known_of_long.Goals as goal

pub returns-in-Odd-clause-read : goal.returns-in-Odd-clause-read
returns-in-Odd-clause-read c =
    let s = c.args.trace.now in
    ap (λ n. bytes (take n s)) c.min.ensures ∙ ap bytes (take_least odd_read s)
    ∙ sym (ap (λ (r : Rest). known_long r s) (c.in_ok-rest.was ∙ ap Ok c.in-Odd.is))
