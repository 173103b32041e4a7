-- A second format whose widths fit: that they do is no property of the first edition's numbers alone.
use Rattle.std.specs.Prelude.{refl}
use Rattle.std.proofs.Common.{arith}
use Rattle.records.specs.Formats.{Format, WidthsFit}

-- Sixteen registers and eight functions: masks of two bytes, and codes of five bits, eight to five bytes.
abbrev pub wide_format : Format
wide_format = record { registers = 16; functions = 8; mask_bytes = 2; code_bits = 5; group = 8; group_bytes = 5; groups = 256; size = 1600 }

pub wide_sound : WidthsFit wide_format
wide_sound = record { masks = refl; names = omega arith; grouped = refl; counted = refl; fits = omega arith }
