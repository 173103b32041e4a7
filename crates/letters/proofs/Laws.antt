-- Laws that several functions' proofs share.
use mathlib.Core.Path.{◌≡◌, refl, sym}
use Prim.Native.Nat.{ℕ, ◌≤◌, ◌<◌}
use native.Mathlib.Omega.{arith}
use native.Mathlib.Nat.{div-eq_of_lt, lt_of_lt_of_le}
use mathlib.Core.Bool.{Bool, true, false, ◌&&◌}
use mathlib.Core.List.{[], ◌∷◌}
use lib.Dec.{eqb}
use lib.Pow as pow
use borrow.Author.Tests.{eq-eqb, ne_eqb}
use Rattle.base.specs.Choice.{pick}
use Rattle.base.specs.Masks.{has}
use Rattle.letters.specs.Packing.{join, split, Sized}
use Rattle.letters.specs.Answers.{value, refusal}
use Rattle.letters.specs.declared.Header.{Header}
use Rattle.letters.specs.declared.Letter.{Letter}
use Rattle.letters.specs.Editions.{first_edition}
use Rattle.letters.specs.Words.{bits_from, header_fields, letter_fields}
use Rattle.letters.specs.Coding.{mask_of, header_test, fits_test}
use Rattle.letters.proofs.Theory.WordLaws.{header-test, fits-test, first_roomy}

-- a byte has no bit from 8 on
pub no_bit : (m f : ℕ) → m < 256 → 8 ≤ f → false ≡ has m f
no_bit m f l g = rw (div-eq_of_lt (lt_of_lt_of_le l (pow.pow_mono g)))

-- four bits in the other order, either way
pub mirror : (a : ℕ) → join (1 ∷ 1 ∷ 1 ∷ 1 ∷ []) (bits_from 0 4 a) ≡ mask_of (split (1 ∷ 1 ∷ 1 ∷ 1 ∷ []) a)
mirror a = omega arith

-- What the fields of a word w name, x, is packed again to a where the test t passes, and the two words are compared.
module _ {A : Type 0} (t : Bool) (x : A) (a w n : ℕ) where
  pub reread_none : pick t (λ _. value a) (λ _. refusal n 0) ≡ refusal n 0 → refusal n 0 ≡ pick (t && eqb a w) (λ _. value x) (λ _. refusal n 0)
  reread_none = none t
    where
      none : (t : Bool) → pick t (λ _. value a) (λ _. refusal n 0) ≡ refusal n 0 → refusal n 0 ≡ pick (t && eqb a w) (λ _. value x) (λ _. refusal n 0)
      none true e = let z : ◌≡◌ {A = ℕ} 0 1 = cc in absurd (omega arith)
      none false e = refl

  pub reread_same : (p : ℕ) → pick t (λ _. value a) (λ _. refusal n 0) ≡ value p → p ≡ w → value x ≡ pick (t && eqb a w) (λ _. value x) (λ _. refusal n 0)
  reread_same p = same t
    where
      same : (t : Bool) → pick t (λ _. value a) (λ _. refusal n 0) ≡ value p → p ≡ w → value x ≡ pick (t && eqb a w) (λ _. value x) (λ _. refusal n 0)
      same true e q = let g : a ≡ w = cc in rw (eq-eqb a w g)
      same false e q = let z : ◌≡◌ {A = ℕ} 0 1 = cc in absurd (omega arith)

  pub reread_other : (p : ℕ) → pick t (λ _. value a) (λ _. refusal n 0) ≡ value p → (p ≡ w → ⊥)
      → refusal n 0 ≡ pick (t && eqb a w) (λ _. value x) (λ _. refusal n 0)
  reread_other p = other t
    where
      other : (t : Bool) → pick t (λ _. value a) (λ _. refusal n 0) ≡ value p → (p ≡ w → ⊥)
          → refusal n 0 ≡ pick (t && eqb a w) (λ _. value x) (λ _. refusal n 0)
      other true e q = rw (ne_eqb a w λ g. q (cc))
      other false e q = let z : ◌≡◌ {A = ℕ} 0 1 = cc in absurd (omega arith)

-- What the tests of the code say: the fields fit their widths.
pub header_sized : (h : Header) → true ≡ header_test first_edition h → Sized first_edition.header (header_fields first_edition h)
header_sized h t = first_roomy.header_sized h ((header-test first_edition h).0 (sym t))

pub letter_sized : (h : Header) (l : Letter) → true ≡ header_test first_edition h → true ≡ fits_test h l → Sized first_edition.letter (letter_fields h l)
letter_sized h l t u = first_roomy.letter_sized h l ((header-test first_edition h).0 (sym t)) ((fits-test h l).0 (sym u))
