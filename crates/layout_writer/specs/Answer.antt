-- The answer of the layout writer, as the code holds it (SPEC 8.6, 11.1).
use Rattle.std.specs.Prelude.{ℕ, Result, Ok, Err}
use Rattle.letters.specs.Reasons.{number_of}
use Rattle.letters.specs.declared.reasons.Refused.{Refused}
use Rattle.layout_theory.specs.Writing.{LayoutAnswer, printed, refused}

abbrev pub layout_answer : Result ℕ Refused → LayoutAnswer
layout_answer (Ok bytes) = printed bytes
layout_answer (Err r) = refused (number_of r.reason) r.place
