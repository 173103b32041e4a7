-- The refusals of a macro's text: by which number, and at which place (SPEC 11.3; document 01).
use Rattle.std.specs.Prelude.{ℕ, ◌≤◌, ◌<◌, List, length}
use Rattle.letters.specs.MacroRefusalNumbers.{text_too_long, points_too_many}
use Rattle.macros.specs.Points.{size_block}
use Rattle.grammar.specs.Limits.{longest_text, most_points}
use Rattle.grammar.specs.Grammar.{Macro, expanded}
use Rattle.grammar.specs.Spelled.{Spelled, InOrder}
use Rattle.refusals.specs.FirstNo.{FirstNo}

-- The questions about a macro's text that the reader asks, in their order, with the number and the place of a no (SPEC 11.3).
pub data Refusal (s : List ℕ) : ℕ → ℕ → Type 0 where
  -- "At most 4,096 bytes? 7." (SPEC 11.3)
  long : longest_text < length s → Refusal s text_too_long 0
  -- "Then token by token, the lowest number at one token": 8 to 12 and 16 (SPEC 11.4)
  token : {n p : ℕ} → length s ≤ longest_text → FirstNo s n p → Refusal s n p
  -- "Then: at most 256 points? 13." (SPEC 11.3)
  points : (m : Macro) → length s ≤ longest_text → Spelled s m → InOrder m → most_points < size_block (expanded m) → Refusal s points_too_many 0
