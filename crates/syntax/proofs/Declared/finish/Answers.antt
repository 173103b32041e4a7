use Rattle.syntax.proofs.Theory.Top as law
use Rattle.syntax.proofs.Declared.finish.Goals as goal

pub returns-then-t-ne-END : goal.returns-then-t-ne-END
returns-then-t-ne-END c = law.finish_unfit _ _ _ _ _ _ c.next-t.ensures c.if-t-ne-END.true c.unfitting.ensures

pub returns-then-count-gt-MOST_POINTS : goal.returns-then-count-gt-MOST_POINTS
returns-then-count-gt-MOST_POINTS c =
    law.finish_long _ _ _ _ _ _ c.next-t.ensures c.args.self.now.registers_padded c.if-t-ne-END.false c.if-count-gt-MOST_POINTS.true c.at.ensures

pub returns : goal.returns
returns c =
    let a = c.args.self.now in
    let whole = law.points_whole c.args.at c.args.points.count c.args.points.entries _ c.redirect.ensures.entries a.registers.count in
    law.finish_read a.text.now a.registers a.functions a.first_test _ _ c.next-t.ensures a.registers_padded c.if-t-ne-END.false a.functions_padded
    c.if-count-gt-MOST_POINTS.false _ c.header.ensures _ whole _ _ c.register_spellings.ensures c.function_spellings.ensures
