use Rattle.std.proofs.Common.{refl}
use Rattle.streaming.specs.Run.{judged_run}
use Rattle.streaming.proofs.Theory.Meanings.{run_takes}
use Rattle.streaming.proofs.Laws.{take_ended, take_taken, take_refused, refused_stays}
use Rattle.streaming.proofs.Run.take.Goals as goal

pub returns-in_default : goal.returns-in_default
returns-in_default c = run_takes _ _ _ (take_ended _ _ _ _ c.in_default.is)

pub returns-in-Err : goal.returns-in-Err
returns-in-Err c =
    let e = c.in-Err.ensures.computed in
    let m = refused_stays c.args.self.now.monitor c.args.word _ _ e in
    run_takes _ _ _ (rw (m, c.from.ensures)
    (take_refused c.args.self.now c.args.word _ _ c.in-Judged.is _ c.next_number-number.ensures _ e _ refl))

pub returns : goal.returns
unfolding judged_run
returns c =
    let e = c.in_default-step.ensures.computed in
    run_takes _ _ _ (take_taken c.args.self.now c.args.word _ _ c.in-Judged.is _ c.next_number-number.ensures _ e _ refl
    (rw (c.first-one.ensures, c.first-two.ensures)))
