use Rattle.std.proofs.Common.{arith, ap, sym, ◌∙◌, is_some}
use Rattle.letters.specs.Editions.{first_edition}
use Rattle.traces.specs.Reading.{letter_in}
use Rattle.traces.specs.ReadingParts.{counted}
use Rattle.traces.proofs.Counting.{count_begins, count_good, count_bad, count_ends, letters_chunked, piece_of, unit_read}
use Rattle.traces.proofs.read_letters.Goals as goal

pub loop-i-init : goal.loop-i-init
loop-i-init c = count_begins (letter_in first_edition c.args.h) c.args.h _
    ∙ ap counted (sym (letters_chunked c.args.h c.args.bytes.now _ c.requires c.as_chunks.ensures.front))

pub loop-i-preserved : goal.loop-i-preserved
loop-i-preserved c =
    let unit = piece_of 2 c.loop-i.i _ _ _ c.as_chunks.ensures.front (omega arith) (omega arith) in
    let read = unit_read c.args.h _ _ _ unit c.word.ensures c.decode_letter.ensures in
    sym (count_good (letter_in first_edition c.args.h) c.args.h _ c.loop-i.i _ _ (omega arith) read (ap is_some c.in-Some.is)) ∙ c.loop-i.invariant

pub returns-in_default : goal.returns-in_default
returns-in_default c =
    let unit = piece_of 2 c.loop-i.i _ _ _ c.as_chunks.ensures.front (omega arith) (omega arith) in
    let read = unit_read c.args.h _ _ _ unit c.word.ensures c.decode_letter.ensures in
    rw c.at.ensures (sym (count_bad (letter_in first_edition c.args.h) c.args.h _ c.loop-i.i _ _ (omega arith) read (ap is_some c.in_default.is))
    ∙ c.loop-i.invariant)

pub returns : goal.returns
returns c = count_ends (letter_in first_edition c.args.h) c.args.h c.as_chunks.result.0.now c.loop-i.i _ c.loop-i.invariant (omega arith) (omega arith)
