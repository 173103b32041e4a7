use Rattle.std.proofs.Common.{rules, arith, sym, ap, subst, ◌∙◌}
use Rattle.std.proofs.Math.Nat.{le-max_left}
use Rattle.base.specs.Each.{each_up_to}
use Rattle.base.proofs.Theory.Each.{each_turn}
use Rattle.blocks.specs.Followed.{FollowedBelow}
use Rattle.blocks.specs.Held.{unused_point, within}
use Rattle.blocks.proofs.Theory.RangeLaws.{range_known, range_turn, range_ended, range_followed}
use Rattle.blocks.proofs.points.Points.redirect.Goals as goal

pub loop-i-init : goal.loop-i-init
loop-i-init c = record {
  entries =
      range_known c.args.from c.args.to c.args.f c.args.self.now.known c.args.self.now.entries c.args.self.now.followed
      ∙ ap (λ n. each_up_to (within c.args.from c.args.to c.args.f) n c.args.self.now.entries) (sym c.max-start.ensures);
  count = search rules;
}

pub loop-i-preserved : goal.loop-i-preserved
loop-i-preserved c = record {
  entries =
      let low = le-max_left c.args.from c.args.self.now.known in
      each_turn _ _ _ _ unused_point _ c.loop-i.invariant.entries
      (range_turn c.args.from c.args.to c.args.f _ _ _ (omega (arith, low, c.loop-i.auto.i, c.max-start.ensures)) c.loop-i-test.true c.redirected.ensures);
  count = c.loop-i.invariant.count;
}

pub returns-else-from-self-clause-entries : goal.returns-else-from-self-clause-entries
returns-else-from-self-clause-entries c =
    let low = le-max_left c.args.from c.args.self.now.known in
    range_ended c.args.from c.args.to c.args.f _ _ _ (omega (arith, low, c.loop-i.auto.i, c.max-start.ensures)) c.loop-i-test.false
    c.loop-i.invariant.entries

pub returns-then-f-ne-UNKNOWN-clause-entries : goal.returns-then-f-ne-UNKNOWN-clause-entries
returns-then-f-ne-UNKNOWN-clause-entries c =
    let low = le-max_left c.args.from c.args.self.now.known in
    range_ended c.args.from c.args.to c.args.f _ _ _ (omega (arith, low, c.loop-i.auto.i, c.max-start.ensures)) c.loop-i-test.false
    c.loop-i.invariant.entries

pub invariant_of-self-then-f-ne-UNKNOWN-clause-followed : goal.invariant_of-self-then-f-ne-UNKNOWN-clause-followed
invariant_of-self-then-f-ne-UNKNOWN-clause-followed c =
    let low = le-max_left c.args.from c.args.self.now.known in
    let ended = range_ended c.args.from c.args.to c.args.f _ _ _ (omega (arith, low, c.loop-i.auto.i, c.max-start.ensures)) c.loop-i-test.false
    c.loop-i.invariant.entries in
    subst (λ n. FollowedBelow n c.loop-i.self.entries) (sym c.max-self.ensures)
    (range_followed c.args.from c.args.to c.args.f _ c.args.self.now.entries _ c.if-from-self.true c.if-f-ne-UNKNOWN.true c.loop-i.self.followed ended)
