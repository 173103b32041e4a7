use Rattle.letters.proofs.Laws.{header_sized}
use Rattle.letters.proofs.words.encode_header.Goals as goal
use mathlib.Core.Path.{sym, ◌∙◌}

pub header_word-requires : goal.header_word-requires
header_word-requires c = header_sized c.args.h (sym c.if-header_fits.true ∙ c.header_fits.ensures)
