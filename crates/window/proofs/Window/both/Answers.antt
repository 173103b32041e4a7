use Rattle.std.proofs.Common.{get_or}
use Rattle.window.proofs.Theory.Performing.{both_has}
use Rattle.window.proofs.Window.both.Goals as goal

pub returns-clause-first : goal.returns-clause-first
returns-clause-first c = both_has (get_or c.args.self.now.class c.args.a 0) (get_or c.args.self.now.class c.args.b 0) _ _ c.single.ensures

pub returns-clause-value : goal.returns-clause-value
returns-clause-value c = rw c.single.ensures
