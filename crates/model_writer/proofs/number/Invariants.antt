use Rattle.std.proofs.Common.{◌≡◌, suc}
use Rattle.base.proofs.Theory.Written.{WrittenUpTo}
use Rattle.closure.specs.Limits.{most_terms}
use Rattle.model_writer.specs.Values.{value_at, classes_below}
use Rattle.model_writer.proofs.number.Given as goal

abbrev pub invariant-loop-i : goal.invariant-loop-i
invariant-loop-i l = WrittenUpTo (value_at l.terms.representative) 0 most_terms l.i l.values × (l.next ≡ suc (classes_below l.terms.representative l.i))
