use Rattle.std.proofs.Common.{rules}
use Rattle.verdict_lines.proofs.Theory.Saying.{prints}
use Rattle.verdict_lines.proofs.write_lines.Goals as goal

pub returns : goal.returns
returns c =
    let judged = c.judge_macro-verdict in
    let written = c.write_verdict in
    prints c.args.text.now _ _ (search rules) (search rules) judged.result judged.new.table judged.new.output
    judged.ensures c.args.lines.now written.result written.new.lines written.ensures
