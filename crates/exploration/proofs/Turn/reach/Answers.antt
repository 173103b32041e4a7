use Rattle.std.proofs.Common.{rules, arith, ◌/◌, ◌%◌}
use Rattle.exploration.proofs.Theory.TurnLaws.{reach_ended, reach_seen, reach_full, reach_new}
use Rattle.exploration.proofs.Theory.Keeping.{keeps_on, keeps_stopped, keeps_new}
use Rattle.exploration.specs.declared.Stop.TheVariants.{Full}
use Rattle.exploration.proofs.Turn.reach.Goals as goal

pub returns-then-self-k-clause-value : goal.returns-then-self-k-clause-value
returns-then-self-k-clause-value c =
    let a = c.args in (reach_ended a.k a.w a.self.end a.self.room a.self.count a.self.number a.table.now c.if-self-k.true).0

pub returns-then-self-k-clause-table : goal.returns-then-self-k-clause-table
returns-then-self-k-clause-table c =
    let a = c.args in (reach_ended a.k a.w a.self.end a.self.room a.self.count a.self.number a.table.now c.if-self-k.true).1

pub returns-then-self-k-clause-keeps : goal.returns-then-self-k-clause-keeps
returns-then-self-k-clause-keeps c = keeps_on _ _ _ _ c.requires.indexed

pub returns-then-is_listed-clause-value : goal.returns-then-is_listed-clause-value
returns-then-is_listed-clause-value c =
    let a = c.args in
    (reach_seen a.k a.w a.self.end a.self.room a.self.count a.self.number a.table.now (omega arith) c.encode-pair.result c.is_listed.result
    c.encode-pair.ensures c.is_listed.ensures c.if-is_listed.true).0

pub returns-then-is_listed-clause-table : goal.returns-then-is_listed-clause-table
returns-then-is_listed-clause-table c =
    let a = c.args in
    (reach_seen a.k a.w a.self.end a.self.room a.self.count a.self.number a.table.now (omega arith) c.encode-pair.result c.is_listed.result
    c.encode-pair.ensures c.is_listed.ensures c.if-is_listed.true).1

pub returns-then-is_listed-clause-keeps : goal.returns-then-is_listed-clause-keeps
returns-then-is_listed-clause-keeps c = keeps_on _ _ _ _ c.requires.indexed

pub returns-then-self-clause-value : goal.returns-then-self-clause-value
returns-then-self-clause-value c =
    let a = c.args in
    (reach_full a.k a.w a.self.end a.self.room a.self.count a.self.number a.table.now (omega arith) c.encode-pair.result c.is_listed.result
    c.encode-pair.ensures c.is_listed.ensures c.if-is_listed.false c.if-self.true).0

pub returns-then-self-clause-table : goal.returns-then-self-clause-table
returns-then-self-clause-table c =
    let a = c.args in
    (reach_full a.k a.w a.self.end a.self.room a.self.count a.self.number a.table.now (omega arith) c.encode-pair.result c.is_listed.result
    c.encode-pair.ensures c.is_listed.ensures c.if-is_listed.false c.if-self.true).1

pub returns-then-self-clause-keeps : goal.returns-then-self-clause-keeps
returns-then-self-clause-keeps c = keeps_stopped _ _ _ _ c.requires.indexed Full

pub returns-clause-value : goal.returns-clause-value
returns-clause-value c =
    let a = c.args in
    (reach_new a.k a.w a.self.end a.self.room a.self.count a.self.number a.table.now (omega arith) c.encode-pair.result c.is_listed.result
    c.encode-pair.ensures c.is_listed.ensures c.if-is_listed.false c.if-self.false c.put.new.table c.put.ensures).0

pub returns-clause-table : goal.returns-clause-table
returns-clause-table c =
    let a = c.args in
    (reach_new a.k a.w a.self.end a.self.room a.self.count a.self.number a.table.now (omega arith) c.encode-pair.result c.is_listed.result
    c.encode-pair.ensures c.is_listed.ensures c.if-is_listed.false c.if-self.false c.put.new.table c.put.ensures).1

pub returns-clause-keeps : goal.returns-clause-keeps
returns-clause-keeps c =
    let a = c.args in
    keeps_new _ _ _ _ c.requires.indexed c.encode-pair.result (a.self.number / 2) (a.self.number % 2) (search rules) (omega arith) (omega arith)
    c.put.new.table c.enter.new.self.head c.enter.new.self.link c.put.ensures c.enter.ensures.head c.enter.ensures.link
