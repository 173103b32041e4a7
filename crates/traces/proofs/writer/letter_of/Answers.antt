use Rattle.traces.specs.Writing.{plain_letter}
use Rattle.traces.proofs.Counting.{five_bytes}
use Rattle.traces.proofs.writer.letter_of.Goals as goal

pub returns-then-not-unused_are_zero : goal.returns-then-not-unused_are_zero
unfolding plain_letter
returns-then-not-unused_are_zero c = rw (five_bytes c.args.h c.args.fields.now c.told-fields, ← c.if-not-unused_are_zero.ensures)

pub returns-then-letter_fits : goal.returns-then-letter_fits
unfolding plain_letter
returns-then-letter_fits c = rw (
  five_bytes c.args.h c.args.fields.now c.told-fields,
  ← c.if-not-unused_are_zero.ensures,
  ← c.letter_by-letter.ensures,
  ← c.if-letter_fits.ensures,
)

pub returns-else-letter_fits : goal.returns-else-letter_fits
unfolding plain_letter
returns-else-letter_fits c = rw (
  five_bytes c.args.h c.args.fields.now c.told-fields,
  ← c.if-not-unused_are_zero.ensures,
  ← c.letter_by-letter.ensures,
  ← c.if-letter_fits.ensures,
)
