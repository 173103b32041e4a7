use Rattle.std.proofs.Common.{rules, refl}
use Rattle.records.specs.Records.{is_set}
use Rattle.records.proofs.Turns.{window_made}
use Rattle.records.proofs.window_in.Goals as goal

pub returns : goal.returns
unfolding is_set
returns c =
    window_made c.args.part.now c.eight-class.result _ _ _ _ _ _ _ _ c.requires (search rules) c.eight-class.ensures c.eight-unequal.ensures
    c.eight.ensures c.marks-mark.ensures c.meanings-meanings.ensures c.results-result.ensures c.ever_lines-ever.ensures refl
    c.counted_classes-classes.ensures
