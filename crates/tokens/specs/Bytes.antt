-- The bytes of a macro's text (SPEC 8.1, 8.2; document 01).
use Rattle.std.specs.Prelude.{ℕ, suc, ◌+◌, Bool, true, false, not, ◌&&◌, ◌||◌, List, [], ◌∷◌, map, leb, eqb, get_or}
use Rattle.base.specs.Choice.{pick}
use Rattle.base.specs.Bytes.{little_endian}

-- space, tab, CR, LF (SPEC 8.1)
abbrev pub blank : ℕ → Bool
blank b = eqb b 32 || eqb b 9 || eqb b 13 || eqb b 10

-- a lower-case letter (SPEC 8.2)
abbrev pub lower : ℕ → Bool
lower b = leb 97 b && leb b 122

-- a capital letter (SPEC 8.2)
abbrev pub capital : ℕ → Bool
capital b = leb 65 b && leb b 90

-- a byte in lower case: `A` to `Z` become `a` to `z`, and no other byte changes (SPEC 8.2)
abbrev pub lowered : ℕ → ℕ
lowered b = pick (capital b) (λ _. b + 32) λ _. b

-- bytes in lower case (SPEC 8.2)
abbrev pub lower_case : List ℕ → List ℕ
lower_case = map lowered

-- a letter: `a` to `z` or `A` to `Z` (SPEC 8.2)
abbrev pub letter : ℕ → Bool
letter b = lower (lowered b)

abbrev pub digit : ℕ → Bool
digit b = leb 48 b && leb b 57

-- a letter, a digit or _: what a name goes on with
abbrev pub inner : ℕ → Bool
inner b = letter b || digit b || eqb b 95

-- 1 2 = ; , ( ) { } /
abbrev pub symbol : ℕ → Bool
symbol b = eqb b 49 || eqb b 50 || eqb b 61 || eqb b 59 || eqb b 44 || eqb b 40 || eqb b 41 || eqb b 123 || eqb b 125 || eqb b 47

-- `!`, which is a token by itself where no `=` follows (SPEC 8.2)
abbrev pub negation : ℕ → Bool
negation b = eqb b 33

-- `:` and `!`, which are one token with a `=` behind them (SPEC 8.2)
abbrev pub mark : ℕ → Bool
mark b = eqb b 58 || negation b

-- how many bytes of blanks and comments stand in front; the flag says that a comment has begun, which runs to an LF (SPEC 8.1)
unfoldable pub gap : Bool → List ℕ → ℕ
gap c [] = 0
gap true (b ∷ s) = suc (gap (not (eqb b 10)) s)
gap false (b ∷ s) = pick (eqb b 35) (λ _. suc (gap true s)) λ _. pick (blank b) (λ _. suc (gap false s)) λ _. 0

-- how many letters, digits and _ stand in front
unfoldable pub name_length : List ℕ → ℕ
name_length [] = 0
name_length (b ∷ s) = pick (inner b) (λ _. suc (name_length s)) λ _. 0

-- A name is a letter and "up to seven more" letters, digits or `_` (SPEC 1.3, 8.2).
abbrev pub longest_name : ℕ
longest_name = 8

-- how many bytes the token in front has; 0 where there is none, or a name of more than eight bytes (SPEC 8.2)
unfoldable pub width : List ℕ → ℕ
width [] = 0
width (b ∷ s) =
    pick (letter b) (λ _. pick (leb (name_length (b ∷ s)) longest_name) (λ _. name_length (b ∷ s)) λ _. 0)
    λ _. pick (mark b) (λ _. pick (eqb (get_or s 0 0) 61) (λ _. 2) λ _. pick (negation b) (λ _. 1) λ _. 0)
    λ _. pick (symbol b) (λ _. 1) λ _. 0

-- "Names and words are equal whatever the case of their letters" (SPEC 8.2, 8.4): a token is known by the number of its bytes in lower case,
-- the first one lowest. All that looks up a name or a word compares this number.
abbrev pub key : List ℕ → ℕ
key s = little_endian (lower_case s)

-- "Lines print a name as it was declared" (SPEC 8.4, 12.2): the number of its bytes as they stand.
abbrev pub spelling : List ℕ → ℕ
spelling = little_endian
