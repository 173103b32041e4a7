use Rattle.std.proofs.Common.{rules, arith, sym, ap, ◌∙◌, ◌≡◌, ◌-◌, ◌*◌, ◌%◌, get_or, Err}
use Rattle.grammar.specs.Limits.{most_points}
use Rattle.blocks.specs.Held.{unused_point}
use Rattle.exploration.specs.Exploring.{explore_from, explore_of}
use Rattle.exploration.proofs.Theory.ExploringLaws.{goes_on, ends_stopped, ends_pass, on_within}
use Rattle.exploration.proofs.Theory.Keeping.{carried_none, carried_on}
use Rattle.exploration.proofs.explore.Goals as goal

pub loop-number-init : goal.loop-number-init
unfolding explore_of
loop-number-init c = let a = c.args in record {
  some = omega arith;
  listed = omega arith;
  behind = omega arith;
  as_long = search rules;
  rest = ap (λ f. explore_from f a.points a.end a.room 1 0 a.table.now) (let e : 2 * a.room - 0 ≡ 2 * a.room = omega arith in e);
  carried = carried_none _ _;
  indexed = c.of_one-index.ensures a.table.now;
}

pub returns-in_err-count-clause-value : goal.returns-in_err-count-clause-value
returns-in_err-count-clause-value c =
    let a = c.args in
    let l = c.loop-number in
    let m = c.perform in
    let q = sym l.invariant.rest ∙ ends_stopped a.points a.end a.room l.count l.number l.table (omega arith) c.loop-number-test.true
    (get_or a.points (c.point_at.result % most_points) unused_point) m.result m.new.table
    (ap (λ k. get_or a.points (k % most_points) unused_point) c.point_at.ensures) m.ensures.value m.ensures.table c.in_err-count.field-0.0
    c.in_err-count.was in
    let z : (explore_of a.points a.end a.room a.table.now).0 ≡ Err c.in_err-count.field-0.0 = ap (λ z. z.0) q in
    search rules

pub returns-in_err-count-clause-table : goal.returns-in_err-count-clause-table
returns-in_err-count-clause-table c =
    let a = c.args in
    let l = c.loop-number in
    let m = c.perform in
    let q = sym l.invariant.rest ∙ ends_stopped a.points a.end a.room l.count l.number l.table (omega arith) c.loop-number-test.true
    (get_or a.points (c.point_at.result % most_points) unused_point) m.result m.new.table
    (ap (λ k. get_or a.points (k % most_points) unused_point) c.point_at.ensures) m.ensures.value m.ensures.table c.in_err-count.field-0.0
    c.in_err-count.was in
    sym (ap (λ z. z.1) q)

pub loop-number-preserved : goal.loop-number-preserved
loop-number-preserved c =
    let a = c.args in
    let l = c.loop-number in
    let m = c.perform in
    let e = c.in_ok-count.was in
    let point = get_or a.points (c.point_at.result % most_points) unused_point in
    let read = ap (λ k. get_or a.points (k % most_points) unused_point) c.point_at.ensures in
    let w = on_within a.points a.end a.room l.count l.number l.table (omega arith) c.loop-number-test.true point m.result m.new.table read
    m.ensures.value m.ensures.table c.in_ok-count.count e in
    record {
      some = omega (arith, w.0);
      listed = omega (arith, w.1);
      behind = omega (arith, w.0);
      as_long = search rules;
      rest = sym (goes_on a.points a.end a.room l.count l.number l.table (omega arith) c.loop-number-test.true point m.result m.new.table read
          m.ensures.value m.ensures.table c.in_ok-count.count e) ∙ l.invariant.rest;
      carried = carried_on c.current-w.result l.number l.count l.table m.result m.new.table _ _ c.current-w.ensures c.loop-number-test.true
          m.ensures.keeps;
      indexed = m.ensures.keeps.indexed c.in_ok-count.count e;
    }

pub returns-clause-value : goal.returns-clause-value
returns-clause-value c =
    let a = c.args in
    let l = c.loop-number in
    let q = sym l.invariant.rest ∙ ends_pass a.points a.end a.room l.count l.number l.table (omega arith) in
    sym (ap (λ z. z.0) q)

pub returns-clause-table : goal.returns-clause-table
returns-clause-table c =
    let a = c.args in
    let l = c.loop-number in
    let q = sym l.invariant.rest ∙ ends_pass a.points a.end a.room l.count l.number l.table (omega arith) in
    sym (ap (λ z. z.1) q)
