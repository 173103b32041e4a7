-- The first no of a text (SPEC 11.4; document 01: "Then token by token, the lowest number at one token, place its first byte from 0").
use Rattle.std.specs.Prelude.{◌≡◌, ℕ, zero, suc, ◌<◌, List, [], ◌∷◌, ◌++◌}
use Rattle.tokens.specs.Words as word
use Rattle.tokens.specs.Tokens.{token_at, place_of}
use Rattle.refusals.specs.Questions.{No}

module _ (s : List ℕ) where
  -- The tokens of the text, one after the other, numbered from 0: the number by which token i is known, and the tokens before it.
  abbrev pub key_of : ℕ → ℕ
  key_of i = (token_at s (place_of s i)).key

  abbrev pub tokens_before : ℕ → List ℕ
  tokens_before zero = []
  tokens_before (suc i) = tokens_before i ++ key_of i ∷ []

  -- The answer to question n at token i is no.
  abbrev pub NoAt : ℕ → ℕ → Type 0
  NoAt n i = No n (tokens_before i) (key_of i) (key_of (suc i))

  -- The text has not ended before token i.
  abbrev pub Reached : ℕ → Type 0
  Reached i = (j : ℕ) → j < i → key_of j ≡ word.end → ⊥

  -- n is the lowest number with a no at the first token with a no, and p is its first byte (the text's length, if it is the end; SPEC 11.4).
  pub record FirstNo (n p : ℕ) : Type 0 where
    pub index : ℕ
    pub reached : Reached index
    pub place : p ≡ (token_at s (place_of s index)).start
    pub no : NoAt n index
    pub lowest : (m : ℕ) → m < n → NoAt m index → ⊥
    pub first : (m j : ℕ) → j < index → NoAt m j → ⊥
