use Rattle.std.proofs.Common.{rules}
use Rattle.model_lines.proofs.Theory.PrintsLaws.{prints}
use Rattle.model_lines.proofs.write_line.Goals as goal

pub returns : goal.returns
returns c =
    prints c.args.trace.now _ c.show-answer.new.out c.show-answer.result c.show-answer.ensures (search rules) c.args.out.now c.write_answer.result
    c.write_answer.new.out
    c.write_answer.ensures
