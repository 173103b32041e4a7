use Rattle.std.proofs.Common.{sym, ap, inl, inr, ◌∙◌}
use Rattle.exploration.specs.Moves.{opposite_of}
use Rattle.exploration.proofs.opposite.Goals as goal

pub returns-in-Equal : goal.returns-in-Equal
unfolding opposite_of
returns-in-Equal c = sym (ap opposite_of c.in-Equal.is)

pub returns-in-Unequal : goal.returns-in-Unequal
unfolding opposite_of
returns-in-Unequal c = sym (ap opposite_of c.in-Unequal.is)

pub returns-in-Copy : goal.returns-in-Copy
unfolding opposite_of
returns-in-Copy c =
    elim c.in-Copy.is [
      | inl p ↦ let (x, y, e) = p in e ∙ sym (ap opposite_of e)
      | inr p ↦ let (x, y, z, w, e) = p in e ∙ sym (ap opposite_of e)
    ]
