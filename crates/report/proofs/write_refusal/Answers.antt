use Rattle.report.proofs.Theory.WroteLaws.{wrote_none, wrote_all}
use Rattle.report.proofs.write_refusal.Goals as goal

pub returns-then-out-size : goal.returns-then-out-size
returns-then-out-size c = wrote_none c.write_refused-size.ensures.place c.if-out-size.true

pub returns : goal.returns
returns c = wrote_all c.write_refused-size.ensures.place c.if-out-size.false c.write_refused.ensures
