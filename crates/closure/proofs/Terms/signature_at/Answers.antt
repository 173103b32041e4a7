use Rattle.closure.specs.Arrays.{signature_at}
use Rattle.closure.proofs.Terms.signature_at.Goals as goal

pub returns : goal.returns
unfolding signature_at
returns c = c.signature.ensures
