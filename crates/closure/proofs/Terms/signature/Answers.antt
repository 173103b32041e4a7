use Rattle.std.proofs.Common.{rules}
use Rattle.closure.specs.Index.{signature_of}
use Rattle.closure.proofs.Terms.signature.Goals as goal

pub returns : goal.returns
unfolding signature_of
returns c = search rules
