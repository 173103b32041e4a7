use Rattle.model_writer.specs.Fitting.{too_large, fitting}
use Rattle.model_writer.proofs.Model.put.Goals as goal

pub write-requires : goal.write-requires
write-requires c = c.requires.writable c.if-out-length.false

pub returns-then-out-length : goal.returns-then-out-length
returns-then-out-length c = rw c.at.ensures (too_large c.if-out-length.true)

pub returns : goal.returns
returns c = fitting c.if-out-length.false c.write.ensures
