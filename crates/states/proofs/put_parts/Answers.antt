use Rattle.std.proofs.Common.{rules, ◌≡◌, length}
use Rattle.states.specs.States.{Sizes}
use Rattle.states.proofs.Laws.{six_laid}
use Rattle.states.proofs.put_parts.Goals as goal

pub returns-clause-state_after : goal.returns-clause-state_after
returns-clause-state_after c =
    let a = c.args in
    let heads : length a.head ≡ 7 = search rules in
    let z : Sizes a.class a.unequal a.marks a.ever a.res = search rules in
    six_laid a.head a.class a.unequal a.marks a.ever a.res heads z a.state.now _ _ _ _ _ _ c.lay.ensures.bytes_after c.lay-2.ensures.bytes_after
    c.lay-3.ensures.bytes_after c.lay-4.ensures.bytes_after c.lay-5.ensures.bytes_after c.lay-6.ensures.bytes_after
