use Rattle.std.proofs.Common.{arith, refl, ◌∙◌}
use Rattle.base.proofs.Theory.Written.{written_none, written_more}
use Rattle.model_writer.proofs.Theory.Values.{classes_none, classes_le, chosen_hit, chosen_miss, class_hit, class_miss, chosen_is, next_is, valued_end}
use Rattle.model_writer.proofs.number.Goals as goal
use Rattle.model_writer.proofs.number.Goals.{then-name-i, else-name-i}

pub loop-i-init : goal.loop-i-init
loop-i-init c = (written_none _ _ _ _ c.requires.room, classes_none _)

pub overflow_add-next : goal.overflow_add-next
overflow_add-next c = let h = c.loop-i-test.true in let w = c.requires.within in let e = c.loop-i.invariant.1 in
    let a = classes_le c.args.terms.now.representative c.loop-i.i in omega arith

pub loop-i-preserved : goal.loop-i-preserved
loop-i-preserved c = let h = c.loop-i-test.true in let w = c.requires.within in let (v, n) = c.loop-i.invariant in elim c.if-name-i.branch [
  | then-name-i b ↦ rw (b.values-is, b.next-is) (
    written_more _ _ _ _ _ _ v (omega arith) (chosen_hit _ _ _ _ _ refl b.if-name-i.true ∙ chosen_is _ _ c.requires.lowest c.requires.own _ _ _ h v n),
    next_is _ _ _ _ n (class_hit _ _ _ refl b.if-name-i.true),
  )
  | else-name-i b ↦ rw (b.values-is, b.next-is) (
    written_more _ _ _ _ _ _ v (omega arith) (chosen_miss _ _ _ _ _ refl b.if-name-i.false ∙ chosen_is _ _ c.requires.lowest c.requires.own _ _ _ h v n),
    let z = next_is _ _ _ 0 n (class_miss _ _ _ refl b.if-name-i.false) in omega arith,
  )
]

pub returns : goal.returns
returns c = valued_end _ _ _ _ _ (omega arith) c.loop-i-test.false c.loop-i.invariant.0 c.loop-i.invariant.1
