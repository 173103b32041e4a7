use Rattle.std.proofs.Common.{ℕ, arith, sym, ap, ◌∙◌, ◌≡◌, ◌<◌, [], length}
use borrow.Author.Tests.{eqb-true, eqb-false}
use Rattle.letters.specs.Answers.{value}
use Rattle.traces.specs.Writing.{unpack_letter, unpacked_parts}
use Rattle.traces.proofs.Counting.{count_begins, count_good, count_bad, count_none, count_ends, same_part, last_part, parts_count, whole_count}
use Rattle.traces.proofs.writer.check_letters.Goals as goal

pub loop-i-init : goal.loop-i-init
loop-i-init c = count_begins (unpack_letter c.args.h) c.args.h (unpacked_parts c.args.fields.now)

pub returns-then-is_none : goal.returns-then-is_none
returns-then-is_none c =
    let s = c.args.fields.now in
    let whole = whole_count s _ c.as_chunks.ensures.front in
    let parts = parts_count s in
    let read = c.letter_of.ensures ∙ ap (unpack_letter c.args.h) (same_part s _ c.as_chunks.ensures.front c.loop-i.i _ [] (omega arith)) in
    rw c.at.ensures (sym (count_bad (unpack_letter c.args.h) c.args.h (unpacked_parts s) c.loop-i.i [] _ (omega arith) read c.if-is_none.ensures)
    ∙ c.loop-i.invariant)

pub loop-i-preserved : goal.loop-i-preserved
loop-i-preserved c =
    let s = c.args.fields.now in
    let whole = whole_count s _ c.as_chunks.ensures.front in
    let parts = parts_count s in
    let read = c.letter_of.ensures ∙ ap (unpack_letter c.args.h) (same_part s _ c.as_chunks.ensures.front c.loop-i.i _ [] (omega arith)) in
    sym (count_good (unpack_letter c.args.h) c.args.h (unpacked_parts s) c.loop-i.i [] _ (omega arith) read c.if-is_none.ensures) ∙ c.loop-i.invariant

pub returns-then-not-is_empty : goal.returns-then-not-is_empty
returns-then-not-is_empty c =
    let s = c.args.fields.now in
    let whole = whole_count s _ c.as_chunks.ensures.front in
    let parts = parts_count s in
    let some = eqb-false (length c.as_chunks.result.1.now) 0 (sym c.if-not-is_empty.ensures) in
    let last = last_part s _ c.as_chunks.ensures.front c.args.h [] (omega (arith, some, c.as_chunks.ensures.back_len)) in
    let here : c.loop-i.i ≡ length c.as_chunks.result.0.now = omega arith in
    let more : length c.as_chunks.result.0.now < length (unpacked_parts s) = omega (arith, some, c.as_chunks.ensures.back_len) in
    rw (c.at-then-not-is_empty.ensures, ← here) (sym (count_none (unpack_letter c.args.h) c.args.h (unpacked_parts s) c.loop-i.i 4 0 [] (omega arith)
    (rw here last)) ∙ c.loop-i.invariant)

pub returns : goal.returns
returns c =
    let s = c.args.fields.now in
    let whole = whole_count s _ c.as_chunks.ensures.front in
    let parts = parts_count s in
    let none = eqb-true (length c.as_chunks.result.1.now) 0 (sym c.if-not-is_empty.ensures) in
    let same : length c.as_chunks.result.0.now ≡ length (unpacked_parts s) = omega (arith, none, c.as_chunks.ensures.back_len) in
    ap (λ (n : ℕ). value (c.args.h, n)) same
    ∙ count_ends (unpack_letter c.args.h) c.args.h (unpacked_parts s) c.loop-i.i _ c.loop-i.invariant (omega arith) (omega arith)
