use Rattle.syntax.proofs.Theory.Top as law
use Rattle.syntax.proofs.Declared.read_body.Goals as goal

pub returns-in_err-at : goal.returns-in_err-at
returns-in_err-at c =
    let a = c.args.self.now in
    law.body_refused a.text.now a.registers a.functions a.first_test c.none-points.result c.none-points.ensures.entries c.none-points.ensures.count
    a.registers_padded c.block.new.points c.block.result c.block.ensures c.in_err-at.was c.from_residual.ensures

pub returns : goal.returns
returns c =
    let a = c.args.self.now in
    law.body_read a.text.now a.registers a.functions a.first_test c.none-points.result c.none-points.ensures.entries c.none-points.ensures.count
    a.registers_padded c.block.new.points c.block.result c.block.ensures c.in_ok-at.was c.finish.ensures
