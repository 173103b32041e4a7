-- Bytes as one number.
use Rattle.std.specs.Prelude.{ℕ, ◌+◌, ◌*◌, List, [], ◌∷◌}

-- how many values a byte has
abbrev pub byte_values : ℕ
byte_values = 256

-- the number whose digits to base 256 are the bytes, the first one lowest
abbrev pub little_endian : List ℕ → ℕ
little_endian [] = 0
little_endian (b ∷ s) = b + byte_values * little_endian s
