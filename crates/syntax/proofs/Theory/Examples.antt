-- A text that is read, and an answer that does not meet the reader's contract for it: a reader that refuses everything is wrong.
use mathlib.Core.Path.{refl}
use native.Mathlib.Omega.{arith}
use Rattle.grammar.specs.Reading.{Got}
use Rattle.grammar.proofs.Theory.Reading.{read_macro}
use Rattle.refusals.proofs.Theory.Accepted.{read_accepted}
use Rattle.refusals.proofs.Theory.Examples.{loop, searched, loop_read}
use Rattle.syntax.specs.Answer.{held_reading}
use Rattle.syntax.specs.Reads.{Reads}
use Rattle.syntax.proofs.Theory.Reads.{reads}

loop_reads : Reads loop (held_reading (read_macro loop))
loop_reads = reads loop (held_reading (read_macro loop)) refl

refusing_is_wrong : Reads loop (held_reading (Got.refused 9 0)) → ⊥
unfolding held_reading
refusing_is_wrong x =
    let (a, b, c) = x.accepts searched (read_accepted loop searched 61 loop_read) in
    omega arith
