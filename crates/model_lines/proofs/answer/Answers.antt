use mathlib.Core.Path.{refl}
use Rattle.model_lines.proofs.answer.Goals as goal

pub returns : goal.returns
returns g c = record {
  space = _;
  room = refl;
  input = c.read-input.result;
  behind = c.rest_of-rest.result;
  buffer = c.read-input.new.buffer;
  received = c.read-input.ensures;
  answers = c.answer_to.ensures;
}
