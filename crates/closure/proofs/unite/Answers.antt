use Rattle.closure.specs.Arrays.{classes_united}
use Rattle.closure.proofs.Theory.Propagation.{names_ready}
use Rattle.closure.proofs.unite.Goals as goal

pub relabel-requires : goal.relabel-requires
relabel-requires c = let (p, q) = names_ready _ _ _ _ _ _ c.requires.3 c.requires.1 c.requires.2 c.min-low.ensures c.max-high.ensures in
    (c.requires.0, p, q, c.requires.3)

pub returns : goal.returns
unfolding classes_united
returns c = search (c.relabel.ensures, c.min-low.ensures, c.max-high.ensures)
