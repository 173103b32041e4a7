-- So far `done` bytes are read.
use Rattle.std.proofs.Common.{◌-◌, ◌<◌, length}
use Rattle.files.proofs.Theory.InputLaws.{SoFar}
use Rattle.files.proofs.read.Given as goal

abbrev pub invariant-loop-done : goal.invariant-loop-done
invariant-loop-done g l = SoFar l.initial.buffer l.done l.buffer × (0 < length l.piece)

abbrev pub decreases-loop-done : goal.decreases-loop-done
decreases-loop-done g l = length l.buffer - l.done
