-- Whole traces as bytes: packed (SPEC 2.4).
use Rattle.std.specs.Prelude.{ℕ, ◌<◌, List, [], ◌∷◌, ◌++◌, map, replicate, get_or}
use Rattle.letters.specs.declared.Header.{Header}
use Rattle.letters.specs.declared.Letter.{Letter}
use Rattle.letters.specs.Letters.{Fits}
use Rattle.letters.specs.Packing.{split}
use Rattle.letters.specs.Editions.{Edition}
use Rattle.letters.specs.Words.{header_word, letter_word}

-- Every letter fits the header.
abbrev pub AllFit : Header → List Letter → Type 0
AllFit h [] = Unit {0}
AllFit h (l ∷ ls) = Fits h l × AllFit h ls

-- numbers of k bytes each, the most significant byte first (SPEC 2.1, 7.4)
unfoldable pub units : ℕ → List ℕ → List ℕ
units k [] = []
units k (n ∷ ns) = split (replicate k 8) n ++ units k ns

-- the bytes of these words
abbrev pub bytes_of : Edition → List ℕ → List ℕ
bytes_of e words = units e.bytes words

-- ---- packing

-- The bytes of a trace: the header's unit, then each letter's (SPEC 2.4).
unfoldable pub packing : Edition → Header → List Letter → List ℕ
packing e h ls = bytes_of e (header_word e h ∷ map (letter_word e h) ls)

-- Every entry is a byte.
abbrev pub Bytes : List ℕ → Type 0
Bytes s = (i : ℕ) → get_or s i 0 < 256
