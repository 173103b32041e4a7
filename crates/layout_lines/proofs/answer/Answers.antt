use mathlib.Core.Path.{refl}
use Rattle.layout_lines.proofs.answer.Goals as goal

pub returns : goal.returns
returns g c = record {
  space = _;
  room = refl;
  input = c.read-input.result;
  text = c.read-input.new.buffer;
  received = c.read-input.ensures;
  answers = c.answer_to.ensures;
}
