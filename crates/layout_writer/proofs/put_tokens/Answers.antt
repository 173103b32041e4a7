use Rattle.std.proofs.Common.{arith, rules, refl, ◌∙◌}
use Rattle.layout_writer.proofs.Theory.Finding.{goes_further}
use Rattle.layout_writer.proofs.Theory.Printing.{print_all, small, print_done, print_ended, print_dropped, print_put, put_room, put_within, drop_within}
use Rattle.layout_writer.proofs.put_tokens.Goals as goal

pub loop-at-init : goal.loop-at-init
loop-at-init c =
    let out = c.args.writer.now.out.now in (
      refl,
      λ m A. rw c.requires.front (print_all c.args.text.now out m A),
      record { text = c.requires.short; place = omega arith; few = omega arith },
    )

pub returns-then-t-le-WRONG-clause-laid : goal.returns-then-t-le-WRONG-clause-laid
returns-then-t-le-WRONG-clause-laid c =
    record { print = λ m A. print_done _ _ _ _ _ _ _ (small _ _ _ c.next-t.ensures c.if-t-le-WRONG.true) (c.loop-at.invariant.1 m A) }

pub loop-at-smaller-then-is_empty_else : goal.loop-at-smaller-then-is_empty_else
loop-at-smaller-then-is_empty_else c =
    let (past, B) = drop_within _ _ _ c.loop-at.invariant.2 _ c.next-t.ensures c.if-t-le-WRONG.false _ c.is_empty_else.ensures
    c.if-is_empty_else.true _ c.skip_tokens-at.ensures
    in omega (arith, past, B.place)

pub loop-at-preserved-then-is_empty_else : goal.loop-at-preserved-then-is_empty_else
loop-at-preserved-then-is_empty_else c =
    let (past, B) = drop_within _ _ _ c.loop-at.invariant.2 _ c.next-t.ensures c.if-t-le-WRONG.false _ c.is_empty_else.ensures
    c.if-is_empty_else.true _ c.skip_tokens-at.ensures
    in (
      c.loop-at.invariant.0,
      λ m A. print_dropped _ _ _ _ _ _ _ _ c.next-t.ensures c.if-t-le-WRONG.false _ c.is_empty_else.ensures _
          c.skip_tokens-at.ensures c.if-is_empty_else.true (c.loop-at.invariant.1 m A),
      B,
    )

pub put_token-requires : goal.put_token-requires
put_token-requires c = put_room _ _ _ c.loop-at.invariant.2 c.loop-at.follows c.printed_token-token.result (search rules)

pub loop-at-smaller : goal.loop-at-smaller
loop-at-smaller c = let (past, within) = goes_further _ _ _ c.next-t.ensures c.if-t-le-WRONG.false in omega (arith, past, within)

pub loop-at-preserved : goal.loop-at-preserved
loop-at-preserved c =
    let token = c.printed_token-token.result in (
      c.put_token.ensures.same_buffer ∙ c.loop-at.invariant.0,
      λ m A. print_put _ _ _ _ _ _ _ _ c.next-t.ensures c.if-t-le-WRONG.false _ c.is_empty_else.ensures c.if-is_empty_else.false _
          c.skip_tokens-names.ensures token c.printed_token-token.ensures _ _ c.put_token.ensures.appended _ c.is_word-follows.ensures
          (c.loop-at.invariant.1 m A),
      put_within _ _ _ c.loop-at.invariant.2 _ c.next-t.ensures c.if-t-le-WRONG.false c.loop-at.follows token (search rules) _ _ _
          c.put_token.ensures.appended,
    )

pub returns-clause-laid : goal.returns-clause-laid
returns-clause-laid c = record { print = λ m A. print_ended _ _ _ _ _ _ _ c.loop-at-test.false (c.loop-at.invariant.1 m A) }
