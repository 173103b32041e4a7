use Rattle.std.proofs.Common.{◌≤◌, arith, rules, refl, sym, length}
use Rattle.text.specs.Appending.{Appended}
use Rattle.text.proofs.Theory.Appending.{room_same, appended_same}
use Rattle.report.specs.Lines.{refused_line}
use Rattle.report.proofs.Theory.Bound.{refused_few}
use Rattle.report.proofs.Theory.Forms.{refused_form}
use Rattle.report.proofs.write_refused.Goals as goal

pub put_line-requires : goal.put_line-requires
put_line-requires c =
    let few : length (refused_line c.args.number c.args.place) ≤ 53 =
    refused_few (omega arith) c.args.number c.args.place (omega (arith, c.ranges.number.fits)) c.ranges.place.fits in
    room_same (refused_form {a = c.args.number} {m = c.args.number} c.args.place refl) record { fits = omega (arith, few, c.new-writer.ensures.place) }

pub returns : goal.returns
returns c =
    let line : Appended c.args.out.now 0 (refused_line c.args.number c.args.place) c.put_line.new.self.out.now c.put_line.new.self.at =
    appended_same (sym (refused_form {a = c.args.number} {m = c.args.number} c.args.place refl))
    (rw (c.new-writer.ensures.bytes, c.new-writer.ensures.place) at c.put_line.ensures.appended) in
    search rules
