use Rattle.std.proofs.Common.{rules}
use Rattle.exports.proofs.LayoutLaws.{layout_short, layout_stored}
use Rattle.exports.proofs.layouts.fadzgime_layout.Goals as goal

pub returns-then-answer-lt-LAYOUT_NUMBERS : goal.returns-then-answer-lt-LAYOUT_NUMBERS
returns-then-answer-lt-LAYOUT_NUMBERS c = layout_short _ _ _ c.if-answer-lt-LAYOUT_NUMBERS.true

pub returns : goal.returns
returns c =
    layout_stored _ _ _ _ _ _ c.write_layout-written.result c.write_layout-written.ensures c.layout_numbers-numbers.ensures (search rules)
    c.if-answer-lt-LAYOUT_NUMBERS.false c.store.ensures
