use Rattle.std.proofs.Common.{rules, arith, Fits, w8, w64}
use Rattle.monitor_lines.proofs.Theory.PrintsLaws.{judged_prints, refused_prints}
use Rattle.monitor_lines.proofs.write_lines.Goals as goal

pub returns-in-Judged : goal.returns-in-Judged
returns-in-Judged c =
    let v = c.in-Judged in
    let f : Fits w64 v.incoherent = search rules in
    let g : Fits w64 v.infeasible = search rules in
    judged_prints v.incoherent v.infeasible f.fits g.fits _ v.is c.write_judged.ensures

pub returns-in-Refused : goal.returns-in-Refused
returns-in-Refused c =
    let v = c.in-Refused in
    let f : Fits w8 v.number = search rules in
    let g : Fits w64 v.place = search rules in
    refused_prints v.number v.place (omega (arith, f.fits)) g.fits _ v.is c.write_refused.ensures
