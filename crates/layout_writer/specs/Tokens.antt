-- What the layout writer makes of the tokens of a text (SPEC 8.3, 8.4, 8.6).
use Rattle.std.specs.Prelude.{◌≡◌, ℕ, ◌<◌, Bool, true, false, ◌&&◌, List, eqb}
use Rattle.tokens.specs.Words as word
use Rattle.tokens.specs.Words.{is_name}
use Rattle.tokens.specs.Tokens.{token_at, place_behind}
use Rattle.tokens.specs.declared.Token.{Token}
use Rattle.text.specs.Appending.{Appended}
use Rattle.grammar.specs.Grammar.{Macro}
use Rattle.refusals.specs.Accepted.{Accepted}
use Rattle.layout_theory.specs.Layout.{house_layout}

-- Token i behind a place, counted from 0.
abbrev pub token_behind : List ℕ → ℕ → ℕ → Token
token_behind s from i = token_at s (place_behind s from i)

-- Token i behind a place is the first there that is known by k: before it stand tokens that are known by others.
pub record IsFirst (s : List ℕ) (from k i : ℕ) : Type 0 where
  pub known : (token_behind s from i).key ≡ k
  pub real : (j : ℕ) → j < i → word.wrong < (token_behind s from j).key
  pub others : (j : ℕ) → j < i → (token_behind s from j).key ≡ k → ⊥

-- `spelled` is how the first token behind a place that is known by k is spelled; nothing is said where there is none.
pub record FirstSpelled (s : List ℕ) (from k spelled : ℕ) : Type 0 where
  pub first : (i : ℕ) → IsFirst s from k i → spelled ≡ (token_behind s from i).spelling

-- A token of the text that is known by k, as it is printed; the names are declared behind the place `from`.
pub record PrintedAs (s : List ℕ) (from k w : ℕ) : Type 0 where
  pub name : is_name k ≡ true → FirstSpelled s from k w
  pub other : is_name k ≡ false → w ≡ k

-- `{` and `}` stand at or after a place.
abbrev pub empty_block_at : List ℕ → ℕ → Bool
empty_block_at s at = eqb (token_at s at).key word.lbrace_key && eqb (token_at s (token_at s at).end).key word.rbrace_key

-- The print of the text's macro was put into the front of a buffer, as far as the buffer goes; `size` is its length. Nothing is said of a text that is
-- refused: it is not printed.
pub record LaysOut (s entry : List ℕ) (size : ℕ) (exit : List ℕ) : Type 0 where
  pub print : (m : Macro) → Accepted s m → Appended entry 0 (house_layout m) exit size
