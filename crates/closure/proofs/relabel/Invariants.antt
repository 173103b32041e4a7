use Rattle.std.proofs.Common.{◌≡◌}
use Rattle.base.specs.Each.{each_up_to}
use Rattle.closure.specs.Merging.{relabel_of}
use Rattle.closure.proofs.relabel.Given as goal

abbrev pub invariant-loop-i : goal.invariant-loop-i
invariant-loop-i l = l.representative ≡ each_up_to (λ _ v. relabel_of l.from l.to v) l.i l.fn.representative
