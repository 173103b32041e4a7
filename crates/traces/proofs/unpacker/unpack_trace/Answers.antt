use Rattle.std.proofs.Common.{arith, sym}
use Rattle.std.proofs.lemmas.Result.{err_from_is_err_and}
use Rattle.traces.proofs.Unpacking.{unpack_long, unpack_short, unpack_all, unpack_refused}
use Rattle.traces.proofs.unpacker.unpack_trace.Goals as goal

pub returns-in_err-h : goal.returns-in_err-h
returns-in_err-h c =
    let p = err_from_is_err_and c.from_residual.result c.from_residual.ensures.1 in
    rw (p.1, p.2) (unpack_refused c.args.bytes.now c.args.out.now _ _ (sym c.in_err-h.ensures))

pub returns-then-out-n : goal.returns-then-out-n
returns-then-out-n c = rw c.at.ensures (unpack_short c.args.bytes.now c.args.out.now _ _ (sym c.in_ok-h.ensures) c.if-out-n.true)

pub put_unpacked-requires : goal.put_unpacked-requires
put_unpacked-requires c =
    let k = unpack_long c.args.bytes.now c.args.out.now _ _ (sym c.in_ok-h.ensures) in
    (k.0, omega arith)

pub returns : goal.returns
returns c = unpack_all c.args.bytes.now c.args.out.now _ _ (sym c.in_ok-h.ensures) _ c.if-out-n.false c.put_unpacked.ensures
