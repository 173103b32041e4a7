-- Headers and letters as words (SPEC 2.1 to 2.3; document 01).
use Rattle.std.specs.Prelude.{ℕ, zero, suc, List, [], ◌∷◌, ◌++◌, replicate}
use Rattle.base.specs.Choice.{pick}
use Rattle.base.specs.Masks.{bit, has}
use Rattle.letters.specs.declared.Header.{Header}
use Rattle.letters.specs.declared.Letter.{Letter}
use Rattle.letters.specs.declared.Letter.TheVariants.{Copy, Apply, Equal, Unequal}
use Rattle.letters.specs.Packing.{join}
use Rattle.letters.specs.Editions.{Edition}

-- the bits of a mask, k of them from bit f on
abbrev pub bits_from : ℕ → ℕ → ℕ → List ℕ
bits_from f zero m = []
bits_from f (suc k) m = bit m f ∷ bits_from (suc f) k m

-- "arity 4 (one bit a function, function 0 first; 1 means two arguments; 0 beyond the count)" (SPEC 2.2)
abbrev pub arity_field : Edition → Header → ℕ
arity_field e h = join (replicate e.functions 1) (bits_from 0 e.functions h.binary)

-- "registers 4, functions 3, arity 4, spare 5", the spare field 0 (SPEC 2.2)
abbrev pub header_fields : Edition → Header → List ℕ
header_fields e h = e.lead ++ (h.registers ∷ h.functions ∷ arity_field e h ∷ 0 ∷ [])

unfoldable pub header_word : Edition → Header → ℕ
header_word e h = join e.header (header_fields e h)

-- ---- letters

-- "kind 2 (0 copy, 1 application, 2 equal, 3 unequal), function 2, target 3, first 3, second 3, spare 3. A copy uses target and first; a test uses
-- first and second. Spare and unused fields are 0, the second argument of a one-argument function included." (SPEC 2.3)
abbrev pub letter_fields : Header → Letter → List ℕ
letter_fields h (Copy x y) = 0 ∷ 0 ∷ x ∷ y ∷ 0 ∷ 0 ∷ []
letter_fields h (Apply x f y z) = 1 ∷ f ∷ x ∷ y ∷ pick (has h.binary f) (λ _. z) (λ _. 0) ∷ 0 ∷ []
letter_fields h (Equal x y) = 2 ∷ 0 ∷ 0 ∷ x ∷ y ∷ 0 ∷ []
letter_fields h (Unequal x y) = 3 ∷ 0 ∷ 0 ∷ x ∷ y ∷ 0 ∷ []

unfoldable pub letter_word : Edition → Header → Letter → ℕ
letter_word e h l = join e.letter (letter_fields h l)
