use Rattle.std.proofs.Common.{arith, ap, ◌∙◌, ◌≡◌, ◌+◌, ◌*◌, [], length}
use Rattle.letters.specs.Editions.{first_edition}
use Rattle.letters.specs.Putting.{put_word}
use Rattle.traces.specs.Putting.{word_in}
use Rattle.traces.specs.Writing.{unpacked_parts}
use Rattle.traces.proofs.Counting.{same_part, parts_count, whole_count}
use Rattle.traces.proofs.Putting.{put_good, put_bad, put_rest, put_length}
use Rattle.traces.proofs.writer.put_letters.Goals as goal

pub returns-in_default : goal.returns-in_default
returns-in_default c =
    let s = c.args.fields.now in
    let whole = whole_count s _ c.as_chunks.ensures.front in
    let parts = parts_count s in
    let read = c.in_default.ensures ∙ ap (word_in first_edition c.args.h) (same_part s _ c.as_chunks.ensures.front c.loop-i.i _ [] (omega arith)) in
    put_bad put_word 2 (word_in first_edition c.args.h) (unpacked_parts s) c.loop-i.i (2 * c.loop-i.i + 2) 4 0 [] _ _ c.loop-i.invariant.1 (omega arith) read

pub loop-i-preserved : goal.loop-i-preserved
loop-i-preserved c =
    let s = c.args.fields.now in
    let whole = whole_count s _ c.as_chunks.ensures.front in
    let parts = parts_count s in
    let read = c.in-Some.ensures ∙ ap (word_in first_edition c.args.h) (same_part s _ c.as_chunks.ensures.front c.loop-i.i _ [] (omega arith)) in (
      ap length c.put_word.ensures ∙ put_length c.loop-i.out (2 * c.loop-i.i + 2) c.in-Some.word ∙ c.loop-i.invariant.0,
      put_good put_word 2 (word_in first_edition c.args.h) (unpacked_parts s) c.loop-i.i (2 * c.loop-i.i + 2) (2 * (c.loop-i.i + 1) + 2) [] _ _ _ _
          c.loop-i.invariant.1 (omega arith) read c.put_word.ensures (omega arith),
    )

pub returns : goal.returns
returns c =
    let s = c.args.fields.now in
    let whole = whole_count s _ c.as_chunks.ensures.front in
    let parts = parts_count s in
    let here : c.loop-i.i ≡ length c.as_chunks.result.0.now = omega arith in
    put_rest s _ c.as_chunks.ensures.front c.args.h c.loop-i.i _ _ _ here c.loop-i.invariant.1
