use Rattle.streaming.specs.declared.Phase.TheVariants.{Empty, Even}
use Rattle.streaming.proofs.Theory.Meanings.{pushes_byte}
use Rattle.streaming.proofs.Laws.{push_at, push_one, push_odd}
use Rattle.streaming.proofs.Stream.push.Goals as goal

pub returns-in-Empty : goal.returns-in-Empty
returns-in-Empty c = pushes_byte _ _ _ (push_at c.args.self.now _ Empty c.in-Empty.is)

pub returns-in-One : goal.returns-in-One
returns-in-One c = pushes_byte _ _ _ (push_one c.args.self.now _ _ _ c.in-One.is c.word.ensures c.begin-self.ensures.computed)

pub returns-in-Even : goal.returns-in-Even
returns-in-Even c = pushes_byte _ _ _ (push_at c.args.self.now _ Even c.in-Even.is)

pub returns-in-Odd : goal.returns-in-Odd
returns-in-Odd c = pushes_byte _ _ _ (push_odd c.args.self.now _ _ _ c.in-Odd.is c.word-in-Odd.ensures c.take.ensures.computed)
