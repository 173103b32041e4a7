use Rattle.std.proofs.Common.{ap, sym, ◌∙◌}
use Rattle.streaming.proofs.Theory.MonitorLaws.{moved_stopped, moved_performed, moved_incoherent}
use Rattle.streaming.proofs.Monitor.move_on.Goals as goal

pub returns-then-judge : goal.returns-then-judge
returns-then-judge c = ap (λ r. record { header = c.args.self.now.header; window = c.perform.new.self; running = r }) c.if-self.true
    ∙ moved_performed _ _ c.if-self.true (sym c.judge.ensures ∙ c.if-judge.true) _ c.perform.ensures

pub returns-else-judge : goal.returns-else-judge
returns-else-judge c = sym (moved_incoherent _ _ c.if-self.true (sym c.judge.ensures ∙ c.if-judge.false))

pub returns-else-self : goal.returns-else-self
returns-else-self c = sym (moved_stopped _ _ c.if-self.false)
