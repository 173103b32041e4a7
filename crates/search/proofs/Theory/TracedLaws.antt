-- The bytes that are written back to front are the packed trace.
use mathlib.Core.Path.{◌≡◌, refl, ap}
use mathlib.Core.List.{List, [], ◌∷◌, map}
use Rattle.letters.specs.declared.Header.{Header}
use Rattle.letters.specs.declared.Letter.{Letter}
use Rattle.letters.specs.Letters.{Fits, HeaderFits}
use Rattle.letters.specs.Editions.{first_edition}
use Rattle.letters.specs.Words.{header_word, letter_word}
use Rattle.letters.specs.Encoding.{encode_header, encode_letter}
use Rattle.letters.proofs.Theory.WordLaws.{header-test, fits-test}
use Rattle.traces.specs.Traces.{AllFit, bytes_of, packing}
use Rattle.semantics.specs.Terms.{Trace, ◌▸◌, extend, state}
use Rattle.semantics.specs.Facts.{WellFormed}
use Rattle.search.specs.Tracing.{word_or_zero, letter_words, traced}

module _ (h : Header) (v : HeaderFits first_edition h) where
  header_coded : word_or_zero (encode_header first_edition h) ≡ header_word first_edition h
  unfolding encode_header
  header_coded = rw ((header-test first_edition h).1 v) refl

  letter_coded : (a : Letter) → Fits h a → word_or_zero (encode_letter first_edition h a) ≡ letter_word first_edition h a
  unfolding encode_letter
  letter_coded a f = rw ((header-test first_edition h).1 v, (fits-test h a).1 f) refl

  words_coded : (ls : List Letter) → AllFit h ls → letter_words h ls ≡ map (letter_word first_edition h) ls
  words_coded [] f = refl
  words_coded (a ∷ ls) f = λ i. letter_coded a f.0 i ∷ words_coded ls f.1 i

  -- of letters that fit, under a header that fits
  pub traced_is : (ls : List Letter) → AllFit h ls → traced h ls ≡ packing first_edition h ls
  unfolding traced packing
  traced_is ls f = ap (bytes_of first_edition) (λ i. header_coded i ∷ words_coded ls f i)

-- the letters of a well-formed trace fit

formed_before : (ρ : Trace) (ls : List Letter) → WellFormed (extend ρ ls) → WellFormed ρ
formed_before ρ [] f = f
formed_before ρ (a ∷ ls) f = (formed_before (ρ ▸ a) ls f).0

pub formed_fit : (ρ : Trace) (ls : List Letter) → WellFormed (extend ρ ls) → AllFit (state ρ).header ls
formed_fit ρ [] f = tt
formed_fit ρ (a ∷ ls) f = ((formed_before (ρ ▸ a) ls f).1, formed_fit (ρ ▸ a) ls f)
