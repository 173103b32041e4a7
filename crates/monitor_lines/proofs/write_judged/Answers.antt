use Rattle.std.proofs.Common.{rules, sym, ◌++◌}
use Rattle.text.specs.Appending.{Appended}
use Rattle.text.proofs.Theory.Appending.{room_same, appended_same, appended_then}
use Rattle.monitor_lines.specs.Prints.{coherence_line, feasibility_line}
use Rattle.monitor_lines.proofs.Theory.PrintsLaws.{coherence_form, feasibility_form, coherence_room, feasibility_room}
use Rattle.monitor_lines.proofs.write_judged.Goals as goal

pub put_letter-requires : goal.put_letter-requires
put_letter-requires c =
    let a = c.args in
    rw c.new-writer.ensures.place
    (room_same (coherence_form a.incoherent) (coherence_room a.incoherent a.infeasible c.ranges.incoherent.fits c.ranges.infeasible.fits))

pub put_letter-requires-2 : goal.put_letter-requires-2
put_letter-requires-2 c =
    let a = c.args in
    let first = rw (c.new-writer.ensures.bytes, c.new-writer.ensures.place) at c.put_letter.ensures.appended in
    room_same (feasibility_form a.infeasible) (feasibility_room a.incoherent a.infeasible c.ranges.incoherent.fits c.ranges.infeasible.fits
    (appended_same (sym (coherence_form a.incoherent)) first))

pub returns : goal.returns
returns c =
    let a = c.args in
    let first = rw (c.new-writer.ensures.bytes, c.new-writer.ensures.place) at c.put_letter.ensures.appended in
    let after = c.put_letter-2.new.writer in
    let lines : Appended a.out.now 0 (coherence_line a.incoherent ++ feasibility_line a.infeasible) after.out.now after.at =
    appended_then (coherence_line a.incoherent) (feasibility_line a.infeasible) (appended_same (sym (coherence_form a.incoherent)) first)
    (appended_same (sym (feasibility_form a.infeasible)) c.put_letter-2.ensures.appended) in
    search rules
