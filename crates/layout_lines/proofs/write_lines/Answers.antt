use Rattle.std.proofs.Common.{ap}
use Rattle.layout_writer.specs.Answer.{layout_answer}
use Rattle.layout_lines.proofs.Theory.PrintsLaws.{small_kept, print_printed, refusal_printed}
use Rattle.layout_lines.proofs.write_lines.Goals as goal

pub returns-then-lines-lt-MOST_BYTES : goal.returns-then-lines-lt-MOST_BYTES
returns-then-lines-lt-MOST_BYTES c = small_kept c.args.text.now c.args.lines.now c.if-lines-lt-MOST_BYTES.true

pub returns-in-Ok : goal.returns-in-Ok
returns-in-Ok c =
    let wrote = c.write_layout in
    print_printed c.args.text.now c.args.lines.now c.if-lines-lt-MOST_BYTES.false wrote.result c.in-Ok.n c.in-Ok.is wrote.new.out wrote.ensures

pub returns-in-Err : goal.returns-in-Err
returns-in-Err c =
    let wrote = c.write_layout in
    let line = c.write_refused in
    refusal_printed c.args.text.now c.args.lines.now c.if-lines-lt-MOST_BYTES.false wrote.result _ _ (ap layout_answer c.in-Err.is) wrote.new.out
    wrote.ensures line.result line.new.out (rw c.into.ensures at line.ensures)
