use Rattle.std.proofs.Common.{refl, rules}
use Rattle.closure.specs.Limits.{most_terms, signature_chains}
use Rattle.closure.proofs.Theory.Clashing.{zeros}
use Rattle.engine.proofs.Theory.RunLaws.{begins, registers_few}
use Rattle.engine.proofs.run.Goals as goal

pub begin-requires : goal.begin-requires
begin-requires c = registers_few _ _ _ c.requires.0

pub perform-requires : goal.perform-requires
perform-requires c = let (b, (f, g, h, r)) = c.requires in (
  b,
  begins _ _ _ b _ _ _ _ _ _ _ _ _ _ _ f g h r (search rules) (zeros signature_chains) (record { long = search rules; zero = zeros most_terms })
      (search rules) (search rules) (search rules) _ refl c.begin.ensures,
  refl,
)
