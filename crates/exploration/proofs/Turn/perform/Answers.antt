use Rattle.std.proofs.Common.{rules, ◌∙◌}
use Rattle.exploration.proofs.Theory.TurnLaws.{turn_nothing, turn_goes, turn_breaks, turn_fails, turn_breaks_failing}
use Rattle.exploration.proofs.Theory.Keeping.{keeps_failed, keeps_broken}
use Rattle.exploration.proofs.Turn.perform.Goals as goal

pub returns-in-Nothing-clause-value : goal.returns-in-Nothing-clause-value
returns-in-Nothing-clause-value c =
    let a = c.args in
    (turn_nothing a.point a.self.end a.self.room a.self.count a.self.number a.table.now c.choose.result c.choose.ensures c.in-Nothing.is).0

pub returns-in-Nothing-clause-table : goal.returns-in-Nothing-clause-table
returns-in-Nothing-clause-table c =
    let a = c.args in
    (turn_nothing a.point a.self.end a.self.room a.self.count a.self.number a.table.now c.choose.result c.choose.ensures c.in-Nothing.is).1

pub returns-then-not-judge-clause-value : goal.returns-then-not-judge-clause-value
returns-then-not-judge-clause-value c =
    let a = c.args in
    c.breaks.ensures ∙ (turn_breaks a.point a.self.end a.self.room a.self.count a.self.number a.table.now c.choose.result c.choose.ensures c.in-Goes.letter a.w
    c.requires.window c.judge.result c.judge.ensures c.in-Goes.k c.in-Goes.is (search rules)).0

pub returns-then-not-judge-clause-table : goal.returns-then-not-judge-clause-table
returns-then-not-judge-clause-table c =
    let a = c.args in
    (turn_breaks a.point a.self.end a.self.room a.self.count a.self.number a.table.now c.choose.result c.choose.ensures c.in-Goes.letter a.w
    c.requires.window c.judge.result c.judge.ensures c.in-Goes.k c.in-Goes.is (search rules)).1

pub returns-else-not-judge-clause-value : goal.returns-else-not-judge-clause-value
returns-else-not-judge-clause-value c =
    let a = c.args in
    let r = c.reach in
    (turn_goes a.point a.self.end a.self.room a.self.count a.self.number a.table.now c.choose.result c.choose.ensures c.in-Goes.letter a.w
    c.requires.window c.judge.result c.judge.ensures c.in-Goes.k c.in-Goes.is (search rules) c.perform.new.self c.perform.ensures r.result r.new.table
    r.ensures.value r.ensures.table).0

pub returns-else-not-judge-clause-table : goal.returns-else-not-judge-clause-table
returns-else-not-judge-clause-table c =
    let a = c.args in
    let r = c.reach in
    (turn_goes a.point a.self.end a.self.room a.self.count a.self.number a.table.now c.choose.result c.choose.ensures c.in-Goes.letter a.w
    c.requires.window c.judge.result c.judge.ensures c.in-Goes.k c.in-Goes.is (search rules) c.perform.new.self c.perform.ensures r.result r.new.table
    r.ensures.value r.ensures.table).1

pub returns-then-not-judge-2-clause-value : goal.returns-then-not-judge-2-clause-value
returns-then-not-judge-2-clause-value c =
    let a = c.args in
    c.breaks-then-not-judge-2.ensures
    ∙ (turn_breaks_failing a.point a.self.end a.self.room a.self.count a.self.number a.table.now c.choose.result c.choose.ensures c.in-Fails.letter a.w
    c.requires.window c.judge-in-Fails.result c.judge-in-Fails.ensures c.in-Fails.is (search rules)).0

pub returns-then-not-judge-2-clause-table : goal.returns-then-not-judge-2-clause-table
returns-then-not-judge-2-clause-table c =
    let a = c.args in
    (turn_breaks_failing a.point a.self.end a.self.room a.self.count a.self.number a.table.now c.choose.result c.choose.ensures c.in-Fails.letter a.w
    c.requires.window c.judge-in-Fails.result c.judge-in-Fails.ensures c.in-Fails.is (search rules)).1

pub returns-else-not-judge-2-clause-value : goal.returns-else-not-judge-2-clause-value
returns-else-not-judge-2-clause-value c =
    let a = c.args in
    (turn_fails a.point a.self.end a.self.room a.self.count a.self.number a.table.now c.choose.result c.choose.ensures c.in-Fails.letter a.w
    c.requires.window c.judge-in-Fails.result c.judge-in-Fails.ensures c.in-Fails.is (search rules) c.perform-in-Fails.new.self
    c.perform-in-Fails.ensures c.fail.result c.fail.ensures).0

pub returns-else-not-judge-2-clause-table : goal.returns-else-not-judge-2-clause-table
returns-else-not-judge-2-clause-table c =
    let a = c.args in
    (turn_fails a.point a.self.end a.self.room a.self.count a.self.number a.table.now c.choose.result c.choose.ensures c.in-Fails.letter a.w
    c.requires.window c.judge-in-Fails.result c.judge-in-Fails.ensures c.in-Fails.is (search rules) c.perform-in-Fails.new.self
    c.perform-in-Fails.ensures c.fail.result c.fail.ensures).1

pub returns-else-not-judge-2-clause-keeps : goal.returns-else-not-judge-2-clause-keeps
returns-else-not-judge-2-clause-keeps c =
    keeps_failed _ _ _ _ c.requires.indexed c.perform-in-Fails.new.self c.args.self.number c.fail.result c.fail.ensures

pub returns-then-not-judge-clause-keeps : goal.returns-then-not-judge-clause-keeps
returns-then-not-judge-clause-keeps c = keeps_broken _ _ _ _ c.requires.indexed c.args.self.number c.breaks.result c.breaks.ensures

pub returns-then-not-judge-2-clause-keeps : goal.returns-then-not-judge-2-clause-keeps
returns-then-not-judge-2-clause-keeps c =
    keeps_broken _ _ _ _ c.requires.indexed c.args.self.number c.breaks-then-not-judge-2.result c.breaks-then-not-judge-2.ensures
