use Rattle.std.proofs.Common.{ap, ◌∙◌, bit_and, get_or, rules}
use Rattle.base.proofs.Theory.Written.{written_none, written_more}
use Rattle.window.specs.Adding.{part_of}
use Rattle.window.proofs.Theory.Table.{written_all}
use Rattle.unequal_flags.specs.Words.{named_row, named_rows}
use Rattle.unequal_flags.proofs.named_rows.Goals as goal

pub loop-a-init : goal.loop-a-init
loop-a-init c = written_none _ _ _ _ (search rules)

pub loop-a-preserved : goal.loop-a-preserved
unfolding named_row
loop-a-preserved c =
    let unequal = c.args.unequal.now in
    let a = c.loop-a.a in
    written_more _ _ _ _ _ _ c.loop-a.invariant c.loop-a-test.true
    (c.part.ensures ∙ ap (λ m. part_of m (bit_and (get_or unequal a 0) m) a) c.names-named.ensures)

pub returns : goal.returns
unfolding named_rows
returns c = written_all _ _ _ _ _ c.loop-a.invariant c.loop-a-test.false
