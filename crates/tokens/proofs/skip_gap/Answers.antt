use Rattle.std.proofs.Common.{arith, rules, false, sym, ◌∙◌}
use Rattle.tokens.proofs.Theory.BytesLaws.{gap_out, gap_halted, gap_turn, gap_turn_hash, gap_turn_in, no_hash}
use Rattle.tokens.proofs.skip_gap.Goals as goal
use Rattle.tokens.proofs.skip_gap.Goals.{then-comment, else-comment+then-not-is_blank+else-b-ne35, else-comment+else-not-is_blank}

pub returns-then-b-ne35 : goal.returns-then-b-ne35
returns-then-b-ne35 c =
    gap_halted _ _ _ _ _ c.loop-at-test.true c.if-comment.false c.if-b-ne35.true c.is_blank.ensures (search rules) c.loop-at.invariant

pub loop-at-preserved : goal.loop-at-preserved
loop-at-preserved c = elim c.if-comment.branch [
  | then-comment w ↦ let h = gap_turn_in _ _ _ _ c.loop-at-test.true w.if-comment.true c.loop-at.invariant in rw w.comment-is h
  | else-comment+then-not-is_blank+else-b-ne35 w ↦
      let h = gap_turn_hash _ _ _ _ c.loop-at-test.true w.if-comment.false w.if-b-ne35.false c.loop-at.invariant in rw w.comment-is h
  | else-comment+else-not-is_blank w ↦
      let f = no_hash _ (sym w.is_blank.ensures ∙ w.if-not-is_blank.false) in
      let h = gap_turn _ _ _ _ _ c.loop-at-test.true w.if-comment.false f w.is_blank.ensures w.if-not-is_blank.false c.loop-at.invariant in
      rw w.comment-is h
]

pub returns : goal.returns
returns c =
    let args = c.args in
    let h = gap_out args.text.now c.loop-at.at c.loop-at.comment in
    let g = gap_out args.text.now args.from false in grind (arith, h, g)
