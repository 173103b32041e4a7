-- The words of the first edition have two bytes.
use mathlib.Core.Path.{◌≡◌, refl}
use Prim.Native.Nat.{ℕ, suc, ◌+◌, ◌*◌, ◌/◌, ◌%◌, ◌<◌}
use native.Mathlib.Omega.{arith}
use native.Mathlib.Nat.{div-one}
use native.Mathlib.Numerals.{add-one}
use mathlib.Core.List.{List, [], ◌∷◌}
use lib.ListN.{length, get_or, take, drop}
use lib.Seq.{drop-cons}
use Rattle.letters.specs.declared.Header.{Header}
use Rattle.letters.specs.declared.Letter.{Letter}
use Rattle.letters.specs.Letters.{Fits, HeaderFits}
use Rattle.letters.specs.Packing.{join, split}
use Rattle.letters.proofs.Theory.Packing.{join_lt}
use Rattle.letters.specs.Editions.{first_edition}
use Rattle.letters.specs.Words.{header_fields, letter_fields, header_word, letter_word}
use Rattle.letters.proofs.Theory.WordLaws.{first_roomy}

-- a word's two bytes
pub unit_at : (s : List ℕ) (at : ℕ) → at + 1 < length s → join (8 ∷ 8 ∷ []) (take 2 (drop at s)) ≡ get_or s at 0 * 256 + get_or s (at + 1) 0
unit_at s at l =
    let a : at < length s = omega arith in
    let b : suc at < length s = omega arith in
    rw (add-one at, drop-cons s at 0 a, drop-cons s (suc at) 0 b) (two (get_or s at 0) (get_or s (suc at) 0) (drop (suc (suc at)) s))
  where
    two : (x y : ℕ) (s : List ℕ) → join (8 ∷ 8 ∷ []) (take 2 (x ∷ y ∷ s)) ≡ x * 256 + y
    two x y [] = omega arith
    two x y (z ∷ s) = omega arith

pub unit_bytes : (w : ℕ) → w < 65536 → split (8 ∷ 8 ∷ []) w ≡ w / 256 ∷ w % 256 ∷ []
unit_bytes w l = λ i. high i ∷ low i ∷ []
  where
    high : w / 256 % 256 ≡ w / 256
    high = omega arith

    low : w / 1 % 256 ≡ w % 256
    low = rw (div-one w) refl

module _ (h : Header) (v : HeaderFits first_edition h) where
  pub header_word_below : header_word first_edition h < 65536
  unfolding header_word
  header_word_below = join_lt first_edition.header (header_fields first_edition h) (first_roomy.header_sized h v)

  pub letter_word_below : (l : Letter) → Fits h l → letter_word first_edition h l < 65536
  unfolding letter_word
  letter_word_below l f = join_lt first_edition.letter (letter_fields h l) (first_roomy.letter_sized h l v f)
