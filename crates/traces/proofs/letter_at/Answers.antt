use Rattle.std.proofs.Common.{arith}
use Rattle.traces.proofs.Counting.{no_letter, the_letter}
use Rattle.traces.proofs.letter_at.Goals as goal

pub returns-in_err-letters : goal.returns-in_err-letters
returns-in_err-letters c = rw c.from_residual.ensures
    (no_letter c.args.h c.args.bytes.now c.args.k (omega (arith, c.in_err-letters.ensures.cases, c.as_chunks.ensures.front_len)))

pub returns-in_err-high : goal.returns-in_err-high
returns-in_err-high c = rw c.from_residual-in_err-high.ensures
    (no_letter c.args.h c.args.bytes.now c.args.k
    (omega (arith, c.in_err-high.ensures.lookup, c.in_ok-letters.ensures.cases.1, c.as_chunks.ensures.front_len)))

pub returns : goal.returns
returns c =
    let found = c.in_ok-high.ensures.lookup in
    the_letter c.args.h c.args.bytes.now c.args.k _ _ _ _ c.as_chunks.ensures.front c.in_ok-letters.ensures.cases.0 (omega (arith, found)) found.1 _ _
    c.word.ensures c.decode_letter.ensures
