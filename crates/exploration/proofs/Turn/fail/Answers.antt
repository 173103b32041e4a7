use Rattle.base.proofs.Theory.Choice.{decide}
use Rattle.exploration.specs.Turns.{fail_turn}
use Rattle.exploration.proofs.Turn.fail.Goals as goal

pub returns-then-w : goal.returns-then-w
unfolding fail_turn
returns-then-w c = search (decide, c.if-w.true)

pub returns : goal.returns
unfolding fail_turn
returns c = search (decide, c.if-w.false)
