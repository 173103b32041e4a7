-- The reading of a text without request 1. A name has no capital letters, and a token is known by its bytes as they stand; blanks, digits, signs and the
-- length of a name are as now, with the later requests (SPEC 8.1, 8.2). What is refused and what is read is said of any tokens, as `Refusal` and `Accepted`
-- say it of those of a text.
use Rattle.std.specs.Prelude.{◌≡◌, ℕ, zero, suc, ◌+◌, ◌≤◌, ◌<◌, Bool, ◌||◌, List, [], ◌∷◌, ◌++◌, leb, eqb, length, get_or, drop}
use Rattle.std.proofs.Math.Seq.{slice}
use Rattle.base.specs.Choice.{pick}
use Rattle.base.specs.Bytes.{little_endian}
use Rattle.letters.specs.MacroRefusalNumbers.{text_too_long, points_too_many}
use Rattle.macros.specs.Points.{size_block}
use Rattle.tokens.specs.Bytes.{lower, digit, symbol, negation, mark, longest_name}
use Rattle.tokens.specs.Words as word
use Rattle.tokens.specs.Tokens.{skip_blanks, token}
use Rattle.tokens.specs.declared.Token.{Token}
use Rattle.grammar.specs.Limits.{longest_text, most_points}
use Rattle.grammar.specs.Grammar.{Macro, sentence, expanded}
use Rattle.grammar.specs.Spelled.{InOrder}
use Rattle.refusals.specs.Questions.{No}

-- ---- tokens (SPEC 8.2, without request 1)

-- a lower-case letter, a digit or _: what a name goes on with
abbrev pub original_inner : ℕ → Bool
original_inner b = lower b || digit b || eqb b 95

-- "A name is a lower-case letter and up to seven more lower-case letters, digits or `_`": how many of these stand in front
unfoldable pub original_name_length : List ℕ → ℕ
original_name_length [] = 0
original_name_length (b ∷ s) = pick (original_inner b) (λ _. suc (original_name_length s)) λ _. 0

-- how many bytes the token in front has; 0 where there is none, or a name of more than eight bytes
unfoldable pub original_width : List ℕ → ℕ
original_width [] = 0
original_width (b ∷ s) =
    pick (lower b) (λ _. pick (leb (original_name_length (b ∷ s)) longest_name) (λ _. original_name_length (b ∷ s)) λ _. 0)
    λ _. pick (mark b) (λ _. pick (eqb (get_or s 0 0) 61) (λ _. 2) λ _. pick (negation b) (λ _. 1) λ _. 0)
    λ _. pick (symbol b) (λ _. 1) λ _. 0

-- The token at or after a place, known by the number of its bytes as they stand.
unfoldable pub original_token_at : List ℕ → ℕ → Token
original_token_at s at =
    let p = skip_blanks s at in
    pick (leb (length s) p) (λ _. token word.end word.end (length s) (length s))
    λ _. pick (eqb (original_width (drop p s)) 0) (λ _. token word.wrong word.wrong p p)
    λ _. let number = little_endian (slice p (p + original_width (drop p s)) s) in token number number p (p + original_width (drop p s))

-- ---- a text of `size` bytes with whatever tokens: `next` gives the one at or after a place

module _ (size : ℕ) (next : ℕ → Token) where
  -- The tokens, numbered from 0: where token i is looked for, its number, and the tokens before it (SPEC 11.4).
  abbrev pub place_by : ℕ → ℕ
  place_by zero = 0
  place_by (suc i) = (next (place_by i)).end

  abbrev pub key_by : ℕ → ℕ
  key_by i = (next (place_by i)).key

  abbrev pub tokens_by : ℕ → List ℕ
  tokens_by zero = []
  tokens_by (suc i) = tokens_by i ++ key_by i ∷ []

  -- The answer to question n at token i is no; the first no (SPEC 11.4).
  abbrev pub NoBy : ℕ → ℕ → Type 0
  NoBy n i = No n (tokens_by i) (key_by i) (key_by (suc i))

  pub record FirstNoBy (n p : ℕ) : Type 0 where
    pub index : ℕ
    pub reached : (j : ℕ) → j < index → key_by j ≡ word.end → ⊥
    pub place : p ≡ (next (place_by index)).start
    pub no : NoBy n index
    pub lowest : (m : ℕ) → m < n → NoBy m index → ⊥
    pub first : (m j : ℕ) → j < index → NoBy m j → ⊥

  -- The tokens from one place to another are the listed ones, and all tokens are the sentence of a macro (SPEC 8.3).
  pub data SpellsBy : ℕ → List ℕ → ℕ → Type 0 where
    none : {at : ℕ} → SpellsBy at [] at
    more : {at k e : ℕ} {ks : List ℕ} → (next at).key ≡ k → word.wrong < k → SpellsBy (next at).end ks e → SpellsBy at (k ∷ ks) e

  pub record SpelledBy (m : Macro) : Type 0 where
    pub place : ℕ
    pub tokens : SpellsBy 0 (sentence m) place
    pub ended : (next place).key ≡ word.end

  -- Refused by a number at a place (SPEC 11.3),
  pub data RefusalBy : ℕ → ℕ → Type 0 where
    long : longest_text < size → RefusalBy text_too_long 0
    at_token : {n p : ℕ} → size ≤ longest_text → FirstNoBy n p → RefusalBy n p
    points : (m : Macro) → size ≤ longest_text → SpelledBy m → InOrder m → most_points < size_block (expanded m) → RefusalBy points_too_many 0

  -- or accepted as a macro (SPEC 8, 11.3), whatever the spellings of its names.
  pub record AcceptedBy (m : Macro) : Type 0 where
    pub short : size ≤ longest_text
    pub spelled : SpelledBy m
    pub in_order : InOrder m
    pub few : size_block (expanded m) ≤ most_points

-- ---- with tokens in which capitals are no letters

abbrev pub OriginalRefusal : List ℕ → ℕ → ℕ → Type 0
OriginalRefusal s = RefusalBy (length s) (original_token_at s)

abbrev pub OriginalAccepted : List ℕ → Macro → Type 0
OriginalAccepted s = AcceptedBy (length s) (original_token_at s)
