use Rattle.std.proofs.Common.{arith, ap, ◌-◌, length, drop, length-drop, ◌∙◌}
use Rattle.std.proofs.lemmas.List.{take_all}
use Rattle.streaming.specs.Stream.{pushed_all}
use Rattle.streaming.proofs.Theory.Meanings.{pushes, pushes_one}
use Rattle.streaming.proofs.Laws.{pushed_more, pushed_done}
use Rattle.streaming.proofs.Stream.push_all.Goals as goal

pub returns-then-at_letter : goal.returns-then-at_letter
returns-then-at_letter c =
    let s = c.args.bytes.now in
    let i = c.loop-i.i in
    pushes _ _ _ (c.push_letters.ensures
    ∙ ap (pushed_all c.loop-i.self) (take_all (length s - i) (drop i s) (omega (arith, length-drop i s)))
    ∙ c.loop-i.invariant)

pub loop-i-preserved : goal.loop-i-preserved
loop-i-preserved c = pushed_more _ _ _ _ _ c.loop-i-test.true c.loop-i.invariant (pushes_one _ _ _ c.push.ensures)

pub returns : goal.returns
returns c = pushes _ _ _ (pushed_done _ _ _ _ c.loop-i-test.false c.loop-i.invariant)
