use Rattle.std.proofs.Common.{sym}
use Rattle.text.proofs.Theory.Appending.{room_same, appended_same}
use Rattle.monitor_lines.proofs.Theory.PrintsLaws.{none_text, some_text}
use Rattle.monitor_lines.proofs.put_letter.Goals as goal

pub put_line-requires : goal.put_line-requires
put_line-requires c = room_same (none_text _ _ _ c.if-letter-eq0.true) c.requires

pub put_line-requires-else-letter-eq0 : goal.put_line-requires-else-letter-eq0
put_line-requires-else-letter-eq0 c = room_same (some_text _ _ _ c.if-letter-eq0.false) c.requires

pub returns-then-letter-eq0-clause-appended : goal.returns-then-letter-eq0-clause-appended
returns-then-letter-eq0-clause-appended c = appended_same (sym (none_text _ _ _ c.if-letter-eq0.true)) c.put_line.ensures.appended

pub returns-else-letter-eq0-clause-appended : goal.returns-else-letter-eq0-clause-appended
returns-else-letter-eq0-clause-appended c = appended_same (sym (some_text _ _ _ c.if-letter-eq0.false)) c.put_line-else-letter-eq0.ensures.appended
