-- Worked words (SPEC 2.5): document 01's own, a trap, and what is not well formed, by computation.
use Rattle.std.specs.Prelude.{◌≡◌, refl, ℕ, ◌+◌, ◌*◌}
use Rattle.std.proofs.Common.{arith}
use Rattle.letters.specs.declared.Header.{Header}
use Rattle.letters.specs.declared.Letter.TheVariants.{Apply, Equal}
use Rattle.letters.specs.Letters.{Fits}
use Rattle.letters.specs.Editions.{first_edition}
use Rattle.letters.specs.Answers.{value}
use Rattle.letters.specs.Letters.{HeaderFits}
use Rattle.letters.specs.Coding.{header_test, letter_by, named_letter, apply_test, fits_test, decode_letter}
use Rattle.letters.specs.Words.{header_word, letter_word}

-- "Three registers and one one-argument function" (SPEC 2.5)
abbrev pub unary : Header
unary = record { registers = 3; functions = 1; binary = 0 }

unary_fits : HeaderFits first_edition unary
unary_fits = record { some = omega arith; registers = omega arith; functions = omega arith; binary = omega arith }

-- "give hexadecimal 32 00." (SPEC 2.5)
unary_word : header_word first_edition unary ≡ 0x32 * 256 + 0x00
unfolding header_word
unary_word = refl

-- "Then register 2 := f(register 0) is 44 00," (SPEC 2.5)
application_word : letter_word first_edition unary (Apply 2 0 0 0) ≡ 0x44 * 256 + 0x00
unfolding letter_word
application_word = refl

-- "and the test register 0 = register 1 is 80 08." (SPEC 2.5)
test_word : letter_word first_edition unary (Equal 0 1) ≡ 0x80 * 256 + 0x08
unfolding letter_word
test_word = refl

-- 44 40 is register 2 := f(register 1), with its argument twice: the 0 stands in the word alone.
other_argument : decode_letter first_edition unary (0x44 * 256 + 0x40) ≡ value (Apply 2 0 1 1)
unfolding decode_letter named_letter letter_by header_test fits_test apply_test letter_word
other_argument = refl

-- f(register 1, register 0) fits no header where f takes one argument.
two_arguments : Fits unary (Apply 2 0 1 0) → ⊥
two_arguments v = let e : ◌≡◌ {A = ℕ} 1 0 = v.4 refl in omega arith

-- Function 0's arity bit is the most significant one of its field: four registers and two functions, function 0 of two arguments, give 45 00.
binary_word : header_word first_edition (record { registers = 4; functions = 2; binary = 1 }) ≡ 0x45 * 256 + 0x00
unfolding header_word
binary_word = refl

-- ---- what is not well formed

no_registers : HeaderFits first_edition (record { registers = 0; functions = 0; binary = 0 }) → ⊥
no_registers v = omega arith

-- an arity bit beyond the count
beyond : HeaderFits first_edition (record { registers = 1; functions = 1; binary = 2 }) → ⊥
beyond v = omega arith
