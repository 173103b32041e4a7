use Rattle.std.proofs.Common.{rules, sym}
use Rattle.text.specs.Appending.{Appended}
use Rattle.text.proofs.Theory.Appending.{room_same, appended_same}
use Rattle.model_lines.specs.Prints.{infeasible_line}
use Rattle.model_lines.proofs.Theory.PrintsLaws.{infeasible_form, infeasible_few, few_room}
use Rattle.model_lines.proofs.write_infeasible.Goals as goal

pub put_line-requires : goal.put_line-requires
put_line-requires c =
    rw c.new-writer.ensures.place (room_same (infeasible_form c.args.letter) (few_room (infeasible_few c.args.letter c.ranges.letter.fits)))

pub returns : goal.returns
returns c =
    let line : Appended c.args.out.now 0 (infeasible_line c.args.letter) c.put_line.new.self.out.now c.put_line.new.self.at =
    appended_same (sym (infeasible_form c.args.letter)) (rw (c.new-writer.ensures.bytes, c.new-writer.ensures.place) at c.put_line.ensures.appended) in
    search rules
