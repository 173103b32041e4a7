-- An edition has room: what is well formed fits its widths, and both kinds of words fill a unit.
use Rattle.std.specs.Prelude.{◌≡◌, ◌*◌, ◌≤◌}
use Rattle.letters.specs.declared.Header.{Header}
use Rattle.letters.specs.declared.Letter.{Letter}
use Rattle.letters.specs.Letters.{Fits, HeaderFits}
use Rattle.letters.specs.Packing.{total, Sized}
use Rattle.letters.specs.Editions.{Edition}
use Rattle.letters.specs.Words.{header_fields, letter_fields}

pub record Roomy (e : Edition) : Type 0 where
  pub some : 1 ≤ e.bytes
  pub header_total : total e.header ≡ 8 * e.bytes
  pub letter_total : total e.letter ≡ 8 * e.bytes
  pub header_sized : (h : Header) → HeaderFits e h → Sized e.header (header_fields e h)
  pub letter_sized : (h : Header) (l : Letter) → HeaderFits e h → Fits h l → Sized e.letter (letter_fields h l)
