use Rattle.std.proofs.Common.{arith, inl, inr, refl}
use Rattle.std.proofs.lemmas.Result.{err_from_is_err_and}
use Rattle.syntax.proofs.Theory.Reads.{by_grammar}
use Rattle.layout_writer.proofs.Theory.Answering.{refusal_passed, macro_read, text_short, passes_limit, passes_buffer, print_answered}
use Rattle.layout_writer.proofs.write_layout.Goals as goal

pub returns-in_err-compiled : goal.returns-in_err-compiled
returns-in_err-compiled c =
    let p = err_from_is_err_and c.from_residual.result c.from_residual.ensures.1 in
    rw (p.1, p.2) (refusal_passed c.args.text.now c.args.out.now _ (by_grammar _ c.compiled.ensures.0) c.in_err-compiled.was)

pub lay_out-size-requires : goal.lay_out-size-requires
lay_out-size-requires c =
    let R = macro_read c.args.text.now c.args.out.now _ (by_grammar _ c.compiled.ensures.0) c.in_ok-compiled.was in text_short _ c.args.out.now _ R refl

pub lay_out-requires : goal.lay_out-requires
lay_out-requires c =
    let R = macro_read c.args.text.now c.args.out.now _ (by_grammar _ c.compiled.ensures.0) c.in_ok-compiled.was in text_short _ c.args.out.now _ R refl

pub returns-then-size-gt-LONGEST_PRINT : goal.returns-then-size-gt-LONGEST_PRINT
returns-then-size-gt-LONGEST_PRINT c =
    let R = macro_read c.args.text.now c.args.out.now _ (by_grammar _ c.compiled.ensures.0) c.in_ok-compiled.was in
    let size = c.lay_out-size.ensures in rw c.at.ensures (elim c.then-size-gt-LONGEST_PRINT.either [
      | inl l ↦ passes_limit _ _ _ R refl _ _ size l
      | inr l ↦ passes_buffer _ _ _ R refl _ _ size l.1
    ])

pub returns : goal.returns
returns c =
    let R = macro_read c.args.text.now c.args.out.now _ (by_grammar _ c.compiled.ensures.0) c.in_ok-compiled.was in
    print_answered _ _ _ R refl _ _ c.lay_out-size.ensures (omega arith) (omega arith) _ _ c.lay_out.ensures
