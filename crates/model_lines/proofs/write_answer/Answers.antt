use Rattle.std.proofs.Common.{◌≡◌, ◌<◌, ◌^◌, Ok, rules, arith, length, Fits, w64}
use Rattle.letters.specs.Reasons.{number_of}
use Rattle.model_writer.specs.declared.Shown.TheVariants.{Model, Infeasible}
use Rattle.model_lines.proofs.Theory.PrintsLaws.{model_held, model_room, wrote_model, wrote_infeasible, wrote_refused}
use Rattle.model_lines.proofs.write_answer.Goals as goal

pub write_model-requires : goal.write_model-requires
write_model-requires c =
    let n = c.in-Ok-Model in
    let e : c.args.answer ≡ Ok (Model n.n) = search rules in
    let h = model_held c.args.answer n.n (length c.args.model.now) e c.requires in
    model_room n.n c.args.model.now h.0 h.1

pub returns-in-Ok-Model : goal.returns-in-Ok-Model
returns-in-Ok-Model c =
    let n = c.in-Ok-Model in
    let e : c.args.answer ≡ Ok (Model n.n) = search rules in
    wrote_model c.args.out.now c.args.model.now _ c.args.answer _ n.n e c.requires c.write_model.ensures

pub returns-in-Ok-Infeasible : goal.returns-in-Ok-Infeasible
returns-in-Ok-Infeasible c =
    let k = c.in-Ok-Infeasible in
    let e : c.args.answer ≡ Ok (Infeasible k.letter) = search rules in
    let f : Fits w64 k.letter = search rules in
    wrote_infeasible c.args.out.now c.args.model.now _ c.args.answer _ k.letter e f.fits c.write_infeasible.ensures

pub returns-in-Err : goal.returns-in-Err
returns-in-Err c =
    let x = c.in-Err.refused in
    let e = c.from.ensures in
    let m : number_of x.reason < 2 ^ 64 = omega (arith, e, c.from.type_inv) in
    let g : Fits w64 x.place = search rules in
    wrote_refused c.args.out.now c.args.model.now _ c.args.answer _ x c.in-Err.is m g.fits (rw e at c.write_refused.ensures)
