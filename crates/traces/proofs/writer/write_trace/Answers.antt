use Rattle.std.proofs.Common.{arith, sym}
use Rattle.std.proofs.lemmas.Result.{err_from_is_err_and}
use Rattle.traces.proofs.Putting.{counted_size, wrote_header, wrote_short, wrote_all, wrote_refused}
use Rattle.traces.proofs.writer.write_trace.Goals as goal

pub returns-in_default : goal.returns-in_default
returns-in_default c = rw c.at.ensures (wrote_header c.args.h c.args.fields.now c.args.out.now (sym c.in_default.ensures))

pub returns-in_err-n : goal.returns-in_err-n
returns-in_err-n c =
    let p = err_from_is_err_and c.from_residual.result c.from_residual.ensures.1 in
    rw (p.1, p.2) (wrote_refused c.args.h c.args.fields.now c.args.out.now _ (sym c.in-Some.ensures) _ _ (sym c.in_err-n.ensures))

pub overflow_mul-size : goal.overflow_mul-size
overflow_mul-size c = omega (arith, counted_size c.args.h _ c.args.fields.now _ (sym c.in_ok-n.ensures))

pub overflow_add-size : goal.overflow_add-size
overflow_add-size c = omega (arith, counted_size c.args.h _ c.args.fields.now _ (sym c.in_ok-n.ensures))

pub returns-then-out-size : goal.returns-then-out-size
returns-then-out-size c = rw c.at-then-out-size.ensures
    (wrote_short c.args.h c.args.fields.now c.args.out.now _ (sym c.in-Some.ensures) _ _ (sym c.in_ok-n.ensures) c.if-out-size.true)

pub put_trace-requires : goal.put_trace-requires
put_trace-requires c = omega (arith, counted_size c.args.h _ c.args.fields.now _ (sym c.in_ok-n.ensures))

pub returns : goal.returns
returns c = wrote_all c.args.h c.args.fields.now c.args.out.now _ (sym c.in-Some.ensures) _ _ (sym c.in_ok-n.ensures) _ c.if-out-size.false c.put_trace.ensures
