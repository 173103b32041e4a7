use Rattle.std.proofs.Common.{rules}
use Rattle.states.proofs.Laws.{four_laid}
use Rattle.states.proofs.put_tail.Goals as goal

pub returns : goal.returns
returns c =
    let a = c.args in
    four_laid a.tail a.letters a.first a.second a.state.now _ _ _ _ c.requires (search rules) (search rules) (search rules) (search rules)
    c.lay.ensures.bytes_after c.lay-2.ensures.bytes_after c.lay-3.ensures.bytes_after c.lay-4.ensures.bytes_after
