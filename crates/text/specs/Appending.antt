-- Text stored in a buffer from a place on. What lies past the buffer's end is dropped, so that one writer serves to count and to write.
use Rattle.std.specs.Prelude.{◌≡◌, ℕ, ◌+◌, ◌^◌, ◌<◌, List, length}
use Rattle.std.proofs.lemmas.List.Edits.{sets}

-- The buffer with the text stored from `at` on, as far as the buffer goes.
unfoldable pub stored : List ℕ → ℕ → List ℕ → List ℕ
stored out at text = sets out at text

-- The text was appended at `at`: the buffer, and the place behind the text.
pub record Appended (entry : List ℕ) (at : ℕ) (text exit : List ℕ) (next : ℕ) : Type 0 where
  pub bytes : exit ≡ stored entry at text
  pub place : next ≡ at + length text

-- The place behind the text is a number that the machine has.
pub record PlaceInRange (at : ℕ) (text : List ℕ) : Type 0 where
  pub fits : at + length text < 2 ^ 64
