-- The tokens of a text (SPEC 8.2).
use Rattle.std.specs.Prelude.{◌≡◌, ℕ, zero, suc, ◌+◌, false, List, [], ◌∷◌, leb, eqb, length, drop}
use Rattle.std.proofs.Math.Seq.{slice}
use Rattle.base.specs.Choice.{pick}
use Rattle.tokens.specs.Bytes.{gap, width, key, spelling}
use Rattle.tokens.specs.Words as word
use Rattle.tokens.specs.declared.Token.{Token}
use Rattle.tokens.specs.declared.TokenNumbers.{TokenNumbers}

-- the first place at or after a place that is no blank and in no comment
abbrev pub skip_blanks : List ℕ → ℕ → ℕ
skip_blanks s at = at + gap false (drop at s)

abbrev pub token : ℕ → ℕ → ℕ → ℕ → Token
token k n p e = record { key = k; spelling = n; start = p; end = e }

-- The two numbers of a token's bytes (SPEC 8.2, 8.4).
pub record NumbersOf (bytes : List ℕ) (n : TokenNumbers) : Type 0 where
  pub key_is : n.key ≡ key bytes
  pub spelling_is : n.spelling ≡ spelling bytes

-- The token at or after a place: its number in lower case and as it is spelled, its first byte and the byte after it (SPEC 8.2).
-- The end of the text stands at the text's length (SPEC 11.4).
unfoldable pub token_at : List ℕ → ℕ → Token
token_at s at =
    let p = skip_blanks s at in
    pick (leb (length s) p) (λ _. token word.end word.end (length s) (length s))
    λ _. pick (eqb (width (drop p s)) 0) (λ _. token word.wrong word.wrong p p)
    λ _. let bytes = slice p (p + width (drop p s)) s in token (key bytes) (spelling bytes) p (p + width (drop p s))

-- The bytes of the token at or after a place (SPEC 8.2).
abbrev pub bytes_at : List ℕ → ℕ → List ℕ
bytes_at s at = slice (token_at s at).start (token_at s at).end s

-- The tokens of a text, one after the other, numbered from 0 (SPEC 11.4): the place behind n tokens from a place on, and where token i is looked for.
abbrev pub place_behind : List ℕ → ℕ → ℕ → ℕ
place_behind s at zero = at
place_behind s at (suc n) = (token_at s (place_behind s at n)).end

abbrev pub place_of : List ℕ → ℕ → ℕ
place_of s i = place_behind s 0 i

-- n tokens as they are spelled (SPEC 8.4): the one at or after a place, and then each the `step`-th behind the one before.
unfoldable pub spellings : List ℕ → ℕ → ℕ → ℕ → List ℕ
spellings s at step zero = []
spellings s at step (suc n) = (token_at s at).spelling ∷ spellings s (place_behind s at step) step n
