use Rattle.blocks.proofs.Theory.OutcomeLaws.{fine_pushed}
use Rattle.blocks.proofs.points.Points.push.Goals as goal

pub returns-then-n-lt-MOST_POINTS : goal.returns-then-n-lt-MOST_POINTS
returns-then-n-lt-MOST_POINTS c = fine_pushed _ _ _ _ _ c.if-n-lt-MOST_POINTS.true
