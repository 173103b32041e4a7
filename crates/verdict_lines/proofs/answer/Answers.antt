use mathlib.Core.Path.{refl}
use Rattle.verdict_lines.proofs.answer.Goals as goal

pub returns : goal.returns
returns g c =
    let read = c.read-input in
    record {
      space = _;
      room = refl;
      input = read.result;
      text = read.new.buffer;
      received = read.ensures;
      answers = c.answer_to.ensures;
    }
