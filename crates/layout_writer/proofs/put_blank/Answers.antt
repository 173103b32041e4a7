use Rattle.layout_writer.proofs.Theory.Spacing.{sign_follows, follows_none, appended_nothing}
use Rattle.layout_writer.proofs.put_blank.Goals as goal
use Rattle.layout_writer.proofs.put_blank.Goals.{else-follows-via-then-follows+else-is_word, else-follows-via-else-follows}

pub returns-else-follows-clause-appended : goal.returns-else-follows-clause-appended
returns-else-follows-clause-appended c = elim c.else-follows.branch [
  | else-follows-via-then-follows+else-is_word w ↦
      appended_nothing _ (sign_follows c.args.token _ c.args.follows w.is_word.ensures w.if-is_word.false)
  | else-follows-via-else-follows w ↦ appended_nothing _ (follows_none c.args.token c.args.follows w.if-follows.false)
]
