use Rattle.std.proofs.Common.{arith, ◌∙◌}
use Rattle.std.proofs.lemmas.Result.{err_from_is_err_and}
use borrow.Author.Tests.{lt-ltb, le-ltb}
use lib.Dec.{ltb}
use Rattle.traces.proofs.Counting.{begun_long, begun_over, begun_letters, begun_refused}
use Rattle.traces.proofs.read_trace_within.Goals as goal

pub returns-in_err-header : goal.returns-in_err-header
returns-in_err-header c =
    let p = err_from_is_err_and c.from_residual.result c.from_residual.ensures.1 in
    rw (p.1, p.2) (begun_refused (ltb c.args.limit) c.args.bytes.now _ _ c.in_err-header.ensures)

pub overflow_sub-letters : goal.overflow_sub-letters
overflow_sub-letters c = omega (arith, begun_long (ltb c.args.limit) c.args.bytes.now _ c.in_ok-header.ensures)

pub returns-then-limit-letters : goal.returns-then-limit-letters
returns-then-limit-letters c =
    rw c.at.ensures (begun_over (ltb c.args.limit) c.args.bytes.now _ c.in_ok-header.ensures (lt-ltb _ _ c.if-limit-letters.true))

pub read_letters-requires : goal.read_letters-requires
read_letters-requires c = begun_long (ltb c.args.limit) c.args.bytes.now _ c.in_ok-header.ensures

pub returns : goal.returns
returns c = c.read_letters.ensures ∙ begun_letters (ltb c.args.limit) c.args.bytes.now _ c.in_ok-header.ensures (le-ltb _ _ c.if-limit-letters.false)
