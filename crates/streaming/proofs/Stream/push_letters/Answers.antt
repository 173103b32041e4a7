use Rattle.streaming.proofs.Theory.Meanings.{pushes_one}
use Rattle.streaming.proofs.Pairs.{letters_even, letters_odd}
use Rattle.streaming.proofs.Stream.push_letters.Goals as goal

pub returns-then-bytes-eq1 : goal.returns-then-bytes-eq1
returns-then-bytes-eq1 c = letters_odd c.args.self.now c.args.bytes.now _ c.requires.0 c.requires.1 c.take_all.ensures _ c.if-bytes-eq1.true
    (pushes_one _ _ _ c.push.ensures)

pub returns-else-bytes-eq1 : goal.returns-else-bytes-eq1
returns-else-bytes-eq1 c = letters_even c.args.self.now c.args.bytes.now _ c.requires.0 c.requires.1 c.take_all.ensures c.if-bytes-eq1.false
