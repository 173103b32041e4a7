-- Traces written from unpacked letters (SPEC 2.6, 11.2; document 01: "The writer puts 3 to its header, 4 to each letter, then 6 to its output").
use Rattle.std.specs.Prelude.{◌≡◌, ℕ, ◌+◌, ◌-◌, ◌/◌, Bool, false, ◌&&◌, ◌||◌, List, [], ◌∷◌, ◌++◌, leb, ltb, eqb, length, get_or, take, drop}
use Rattle.base.specs.Choice.{pick}
use Rattle.base.specs.Masks.{has}
use Rattle.letters.specs.declared.Header.{Header}
use Rattle.letters.specs.declared.Letter.{Letter}
use Rattle.letters.specs.Editions.{Edition}
use Rattle.letters.specs.Answers.{Answer, value, refusal}
use Rattle.letters.specs.Words.{letter_fields}
use Rattle.letters.specs.Coding.{header_test, fits_test, letter_by}
use Rattle.traces.specs.Reading.{TraceReading, trace, letters_from, chunks}
use Rattle.traces.specs.Traces.{packing}
use Rattle.letters.specs.RefusalNumbers.{letter_malformed, header_malformed, output_too_small}

-- The bytes of an unpacked letter (SPEC 2.6): the fields of its word without the spare one, kind, function, target, first, second.
abbrev pub unpacked_letter_bytes : ℕ
unpacked_letter_bytes = 5

-- "Unused fields are 0, the second argument of a one-argument function included." (SPEC 2.3, 2.6)
abbrev pub plain_fields : Header → Letter → List ℕ
plain_fields h l = take unpacked_letter_bytes (letter_fields h l)

abbrev pub unpacked_bytes : Header → List Letter → List ℕ
unpacked_bytes h [] = []
unpacked_bytes h (l ∷ ls) = plain_fields h l ++ unpacked_bytes h ls

-- the fields that a letter of this kind does not use are 0, and there are four kinds
unfoldable pub plain_test : Header → ℕ → ℕ → ℕ → ℕ → Bool
plain_test h kind f x z =
    pick (eqb kind 0) (λ _. eqb f 0 && eqb z 0) λ _. pick (eqb kind 1) (λ _. has h.binary f || eqb z 0) λ _.
    pick (ltb kind 4) (λ _. eqb f 0 && eqb x 0) λ _. false

-- the well-formed letter with these fields, if there is one; inside, that of a one-argument function has its argument twice
unfoldable pub plain_letter : Header → ℕ → ℕ → ℕ → ℕ → ℕ → Answer Letter
plain_letter h kind f x y z =
    pick (plain_test h kind f x z && fits_test h (letter_by h kind f x y z)) (λ _. value (letter_by h kind f x y z)) λ _. refusal letter_malformed 0

-- the well-formed letter with these bytes, if there is one; fewer than five bytes are none
unfoldable pub unpack_letter : Header → List ℕ → Answer Letter
unpack_letter h s =
    pick (eqb (length s) unpacked_letter_bytes) (λ _. plain_letter h (get_or s 0 0) (get_or s 1 0) (get_or s 2 0) (get_or s 3 0) (get_or s 4 0))
    λ _. refusal letter_malformed 0

-- how many letters the bytes are, an incomplete one counted
abbrev pub parts_of_letters : List ℕ → ℕ
parts_of_letters s = (length s + (unpacked_letter_bytes - 1)) / unpacked_letter_bytes

-- the bytes of each letter; the last ones may be fewer than five (SPEC 2.6)
unfoldable pub unpacked_parts : List ℕ → List (List ℕ)
unpacked_parts s = chunks unpacked_letter_bytes (parts_of_letters s) s

-- the trace of a header and unpacked letters, or the refusal: 3, then 4 with the letter's number (SPEC 11.2)
unfoldable pub unpacking : Edition → Header → List ℕ → TraceReading
unpacking e h s = pick (header_test e h) (λ _. letters_from (unpack_letter h) h 1 (unpacked_parts s)) λ _. TraceReading.refused header_malformed 0

-- "then 6 to its output" (SPEC 11.2)
unfoldable pub written_length : Edition → ℕ → TraceReading → Answer ℕ
written_length e room (trace h ls) = pick (leb (length (packing e h ls)) room) (λ _. value (length (packing e h ls))) λ _. refusal output_too_small 0
written_length e room (TraceReading.refused number place) = refusal number place

-- "Refused calls write no output; bytes past a written answer stay." (SPEC 11.5)
unfoldable pub written_over : Edition → List ℕ → TraceReading → List ℕ
written_over e out (trace h ls) = pick (leb (length (packing e h ls)) (length out)) (λ _. packing e h ls ++ drop (length (packing e h ls)) out) λ _. out
written_over e out (TraceReading.refused number place) = out

-- What a call of the writer leaves: its answer, and every byte of the output.
pub record WroteTrace (e : Edition) (r : TraceReading) (entry exit : List ℕ) (answer : Answer ℕ) : Type 0 where
  pub answered : answer ≡ written_length e (length entry) r
  pub bytes : exit ≡ written_over e entry r
