-- Words of headers and letters, read (SPEC 2.2, 2.3).
use Rattle.std.specs.Prelude.{ℕ, ◌+◌, ◌*◌, ◌^◌, List, [], ◌∷◌, Bool, ◌&&◌, ◌||◌, leb, ltb, eqb, length, get_or, drop, replicate}
use Rattle.letters.specs.declared.Header.{Header}
use Rattle.letters.specs.Editions.{Edition}
use Rattle.base.specs.Masks.{has}
use Rattle.letters.specs.declared.Letter.{Letter}
use Rattle.letters.specs.declared.Letter.TheVariants.{Copy, Apply, Equal, Unequal}
use Rattle.base.specs.Choice.{pick}
use Rattle.letters.specs.Answers.{Answer, value, refusal}
use Rattle.letters.specs.Words.{header_word, letter_word}
use Rattle.letters.specs.Packing.{split}
use Rattle.letters.specs.RefusalNumbers.{header_malformed, letter_malformed}

-- the mask of these bits, bit 0 first
abbrev pub mask_of : List ℕ → ℕ
mask_of [] = 0
mask_of (b ∷ bits) = b + 2 * mask_of bits

-- ---- the tests of what is well formed

unfoldable pub header_test : Edition → Header → Bool
header_test e h = leb 1 h.registers && (leb h.registers e.registers && (leb h.functions e.functions && ltb h.binary (2 ^ h.functions)))

unfoldable pub apply_test : Header → ℕ → ℕ → ℕ → ℕ → Bool
apply_test h x f y z =
    ltb x h.registers && (ltb f h.functions && (ltb y h.registers && (ltb z h.registers && (has h.binary f || eqb y z))))

unfoldable pub fits_test : Header → Letter → Bool
fits_test h (Copy x y) = ltb x h.registers && ltb y h.registers
fits_test h (Apply x f y z) = apply_test h x f y z
fits_test h (Equal x y) = ltb x h.registers && ltb y h.registers
fits_test h (Unequal x y) = ltb x h.registers && ltb y h.registers

-- ---- decoding: the header or letter that the fields of a word name, if it is well formed and packs to that word (SPEC 2.2, 2.3)

-- the header that these fields name
unfoldable pub named_header : Edition → List ℕ → Header
named_header e fields =
    let own = drop (length e.lead) fields in
    record { registers = get_or own 0 0; functions = get_or own 1 0; binary = mask_of (split (replicate e.functions 1) (get_or own 2 0)) }

unfoldable pub decode_header : Edition → ℕ → Answer Header
decode_header e w =
    let h = named_header e (split e.header w) in
    pick (header_test e h && eqb (header_word e h) w) (λ _. value h) λ _. refusal header_malformed 0

-- the letter of this kind; the application of a one-argument function has its argument twice
unfoldable pub letter_by : Header → ℕ → ℕ → ℕ → ℕ → ℕ → Letter
letter_by h kind f x y z =
    pick (eqb kind 0) (λ _. Copy x y) λ _. pick (eqb kind 1) (λ _. Apply x f y (pick (has h.binary f) (λ _. z) λ _. y)) λ _.
    pick (eqb kind 2) (λ _. Equal y z) λ _. Unequal y z

-- the letter that these fields name
unfoldable pub named_letter : Header → List ℕ → Letter
named_letter h fields = letter_by h (get_or fields 0 0) (get_or fields 1 0) (get_or fields 2 0) (get_or fields 3 0) (get_or fields 4 0)

unfoldable pub decode_letter : Edition → Header → ℕ → Answer Letter
decode_letter e h w =
    let l = named_letter h (split e.letter w) in
    pick ((header_test e h && fits_test h l) && eqb (letter_word e h l) w) (λ _. value l) λ _. refusal letter_malformed 0
