-- Words of eight bytes.
use Rattle.std.specs.Prelude.{ℕ, zero, suc, List, [], ◌∷◌, take, drop}
use Rattle.base.specs.Bytes.{little_endian}

-- the bytes of a word, and of a half of it
abbrev pub fingerprint_word_bytes : ℕ
fingerprint_word_bytes = 8

abbrev pub half_bytes : ℕ
half_bytes = 4

-- The first n words.
unfoldable pub words_in : ℕ → List ℕ → List ℕ
words_in zero s = []
words_in (suc n) s = little_endian (take fingerprint_word_bytes s) ∷ words_in n (drop fingerprint_word_bytes s)
