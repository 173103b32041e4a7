use Rattle.streaming.specs.declared.Phase.TheVariants.{Empty, One, Even, Odd}
use mathlib.Core.Logic.{inl, inr}
use Rattle.streaming.proofs.Theory.Meanings.{finishes}
use Rattle.streaming.proofs.Laws.{finish_at}
use Rattle.streaming.proofs.Stream.finish.Goals as goal

pub returns-in-Empty : goal.returns-in-Empty
returns-in-Empty c = elim c.in-Empty.is [
  | inl e ↦ finishes _ _ (finish_at c.args.self.now Empty e)
  | inr e ↦ finishes _ _ (finish_at c.args.self.now One e)
]

pub returns-in-Even : goal.returns-in-Even
returns-in-Even c = finishes _ _ (finish_at c.args.self.now Even c.in-Even.is)

pub returns-in-Odd : goal.returns-in-Odd
returns-in-Odd c = finishes _ _ (finish_at c.args.self.now Odd c.in-Odd.is)
