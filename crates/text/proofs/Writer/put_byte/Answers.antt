use Rattle.std.proofs.Common.{refl}
use Rattle.text.proofs.Theory.Appending.{byte_stored, byte_dropped}
use Rattle.text.proofs.Writer.put_byte.Goals as goal
use Rattle.text.proofs.Writer.put_byte.Goals.{then-self, else-self}

pub returns-clause-appended : goal.returns-clause-appended
returns-clause-appended c = elim c.if-self.branch [
  | then-self w ↦ rw w.self-is (byte_stored c.args.byte refl)
  | else-self w ↦ rw w.self-is (byte_dropped c.args.byte w.if-self.false refl)
]
