use Rattle.blocks.proofs.Theory.OutcomeLaws.{adds_posed, adds_tested}
use Rattle.blocks.proofs.points.Points.pose.Goals as goal
use Rattle.blocks.proofs.points.Points.pose.Goals.{in-Some, in_default}

pub returns : goal.returns
returns c =
    elim c.match-condition.branch [
      | in-Some w ↦ adds_posed c.args.self.now c.match-condition.self c.push-2.new.self c.args.kind c.args.condition c.push-2.ensures
          w.in-Some.is w.self-is w.push.ensures
      | in_default w ↦ adds_tested c.args.self.now c.match-condition.self c.push-2.new.self c.args.kind c.args.condition c.push-2.ensures
          w.in_default.is w.self-is
    ]
