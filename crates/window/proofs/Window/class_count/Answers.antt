use Rattle.window.proofs.Theory.Exact.{count_exact}
use Rattle.window.proofs.Window.class_count.Goals as goal

pub returns-clause-means : goal.returns-clause-means
returns-clause-means c = λ σ v h. count_exact σ v c.args.self.now h
