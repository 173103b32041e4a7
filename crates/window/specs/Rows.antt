-- Rows of flags, a mask for each register, as words of 64 bits: "read them as one word of 64 bits" (document 02, 5). Flag b of row a is bit
-- (ρ a + b) % 64 of word (ρ a + b) / 64; eight rows of eight flags are one word, and its bit 8 a + b.
use Rattle.std.specs.Prelude.{ℕ, zero, suc, ◌+◌, ◌*◌, ◌/◌, ◌%◌, ◌^◌, ◌<◌, List, get_or}
use Rattle.window.specs.Layout.{word_bits}

module _ (ρ : ℕ) where
  -- the first n rows are masks of registers below ρ; of a lent table that is known row by row, as they are read
  pub record SmallRows (l : List ℕ) (n : ℕ) : Type 0 where
    pub row : (a : ℕ) → a < n → get_or l a 0 < 2 ^ ρ

  -- the first k rows as one number: flag b of row a is its bit ρ a + b
  unfoldable pub joined_rows : List ℕ → ℕ → ℕ
  joined_rows l zero = 0
  joined_rows l (suc k) = get_or l k 0 * 2 ^ (ρ * k) + joined_rows l k

  -- row a of such a number
  unfoldable pub flag_row : ℕ → ℕ → ℕ
  flag_row flags a = flags / 2 ^ (ρ * a) % 2 ^ ρ

  -- word k of all rows
  unfoldable pub flag_word : List ℕ → ℕ → ℕ
  flag_word l k = joined_rows l ρ / 2 ^ (word_bits * k) % 2 ^ word_bits
