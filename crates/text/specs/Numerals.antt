-- Decimal numerals as bytes (SPEC 12.1).
use Rattle.std.specs.Prelude.{ℕ, ◌+◌, ◌/◌, ◌%◌, List, [], ◌∷◌, ◌++◌, ltb}
use Rattle.base.specs.Choice.{pick}
use Rattle.base.specs.Recursion.{fixed}

-- The byte of a digit: 48 is the ASCII code of 0.
abbrev pub digit_byte : ℕ → ℕ
digit_byte d = 48 + d

abbrev pub numeral_step : (ℕ → List ℕ) → ℕ → List ℕ
numeral_step f n = pick (ltb n 10) (λ _. digit_byte n ∷ []) λ _. f (n / 10) ++ (digit_byte (n % 10) ∷ [])

-- The numeral of a number, the most significant digit first: that of its tenth, and its last digit (SPEC 12.1).
unfoldable pub numeral : ℕ → List ℕ
numeral = fixed (λ n. n) (λ _. []) numeral_step
