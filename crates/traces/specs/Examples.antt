-- Worked traces, one for each refusal, all by computation (SPEC 2.4, 2.6, 11.2).
use Rattle.std.specs.Prelude.{◌≡◌, refl, [], ◌∷◌}
use Rattle.letters.specs.declared.Letter.TheVariants.{Apply, Equal}
use Rattle.letters.specs.Editions.{first_edition}
use Rattle.letters.specs.Coding.{named_header, header_test, letter_by, named_letter, apply_test, fits_test, decode_header, decode_letter}
use Rattle.letters.specs.Words.{header_word, letter_word}
use Rattle.letters.specs.Examples.{unary}
use Rattle.traces.specs.Reading.{trace, TraceReading, chunks, letters_from, beginning, letters_of, reading_where, reading}
use Rattle.traces.specs.ReadingParts.{reading_within}
use Rattle.traces.specs.Writing.{plain_test, plain_letter, unpack_letter, unpacked_parts, unpacking}

a_trace : reading first_edition (0x32 ∷ 0x00 ∷ 0x44 ∷ 0x40 ∷ 0x80 ∷ 0x08 ∷ []) ≡ trace unary (Apply 2 0 1 1 ∷ Equal 0 1 ∷ [])
unfolding reading_where beginning letters_of letters_from chunks decode_header named_header header_word decode_letter named_letter letter_by header_test
    fits_test apply_test letter_word
a_trace = refl

header_alone : reading first_edition (0x32 ∷ 0x00 ∷ []) ≡ trace unary []
unfolding reading_where beginning letters_of letters_from chunks decode_header named_header header_word header_test
header_alone = refl

no_bytes : reading first_edition [] ≡ TraceReading.refused 1 0
unfolding reading_where beginning
no_bytes = refl

one_byte : reading first_edition (0x32 ∷ []) ≡ TraceReading.refused 1 0
unfolding reading_where beginning
one_byte = refl

odd_length : reading first_edition (0x32 ∷ 0x00 ∷ 0x44 ∷ []) ≡ TraceReading.refused 2 0
unfolding reading_where beginning
odd_length = refl

-- a spare bit
bad_header : reading first_edition (0x32 ∷ 0x01 ∷ []) ≡ TraceReading.refused 3 0
unfolding reading_where beginning decode_header named_header header_word header_test
bad_header = refl

-- the second letter has its second argument's field in use
bad_letter : reading first_edition (0x32 ∷ 0x00 ∷ 0x44 ∷ 0x40 ∷ 0x44 ∷ 0x48 ∷ []) ≡ TraceReading.refused 4 2
unfolding reading_where beginning letters_of letters_from chunks decode_header named_header header_word decode_letter named_letter letter_by header_test
    fits_test apply_test letter_word
bad_letter = refl

-- 5 comes before 4
too_many : reading_within 1 first_edition (0x32 ∷ 0x00 ∷ 0x44 ∷ 0x40 ∷ 0x44 ∷ 0x48 ∷ []) ≡ TraceReading.refused 5 0
unfolding reading_where beginning decode_header named_header header_word header_test
too_many = refl

-- An unpacked application of a one-argument function has a 0 there too, and inside its argument twice; that argument twice from outside is refused.
a_letter : unpacking first_edition unary (1 ∷ 0 ∷ 2 ∷ 1 ∷ 0 ∷ []) ≡ trace unary (Apply 2 0 1 1 ∷ [])
unfolding unpacking unpacked_parts chunks letters_from unpack_letter plain_letter plain_test letter_by header_test fits_test apply_test
a_letter = refl

argument_twice : unpacking first_edition unary (1 ∷ 0 ∷ 2 ∷ 1 ∷ 1 ∷ []) ≡ TraceReading.refused 4 1
unfolding unpacking unpacked_parts chunks letters_from unpack_letter plain_letter plain_test letter_by header_test fits_test apply_test
argument_twice = refl

-- a rest of fewer than five bytes is no letter
a_rest : unpacking first_edition unary (1 ∷ 0 ∷ 2 ∷ 1 ∷ 0 ∷ 2 ∷ []) ≡ TraceReading.refused 4 2
unfolding unpacking unpacked_parts chunks letters_from unpack_letter plain_letter plain_test letter_by header_test fits_test apply_test
a_rest = refl
