-- The bytes of a trace, read by the questions to a trace (SPEC 2.4, 2.6, 11.2; document 01).
use Rattle.std.specs.Prelude.{ℕ, zero, suc, ◌+◌, ◌%◌, ◌-◌, ◌/◌, List, [], ◌∷◌, replicate, take, drop, length, ltb, eqb, Bool, false}
use Rattle.letters.specs.declared.Header.{Header}
use Rattle.letters.specs.declared.Letter.{Letter}
use Rattle.letters.specs.Editions.{Edition}
use Rattle.letters.specs.Answers.{Answer, on_answer, refusal}
use Rattle.base.specs.Choice.{pick}
use Rattle.letters.specs.Packing.{join}
use Rattle.letters.specs.Coding.{decode_header, decode_letter}
use Rattle.letters.specs.RefusalNumbers.{trace_too_short, trace_odd_length, letter_malformed, trace_too_long}

-- What a reading of a trace gives: its header and letters, or a refusal, a number and a place (SPEC 2.6).
pub data TraceReading : Type 0 where
  trace : Header → List Letter → TraceReading
  refused : ℕ → ℕ → TraceReading

-- ---- units

-- the bytes of a unit, as fields of eight bits each
abbrev pub octets : Edition → List ℕ
octets e = replicate e.bytes 8

-- k parts of n entries each
unfoldable pub chunks : ℕ → ℕ → List ℕ → List (List ℕ)
chunks n zero s = []
chunks n (suc k) s = take n s ∷ chunks n k (drop n s)

-- ---- reading

abbrev pub prepend_letter : Letter → TraceReading → TraceReading
prepend_letter l (trace h ls) = trace h (l ∷ ls)
prepend_letter l (TraceReading.refused number place) = TraceReading.refused number place

-- The letters of these codes under h, numbered from n on: "A letter that is not well formed ends the reading with 4 and its number, from 1." (SPEC 11.2)
unfoldable pub letters_from : {A : Type 0} → (A → Answer Letter) → Header → ℕ → List A → TraceReading
letters_from decode h n [] = trace h []
letters_from decode h n (x ∷ codes) =
    on_answer (decode x) (λ l. prepend_letter l (letters_from decode h (n + 1) codes)) λ _ _. TraceReading.refused letter_malformed n

-- "At least two bytes? 1. Even length? 2. Header as above? 3." (SPEC 11.2) In another edition it is the bytes of its unit.
unfoldable pub beginning : Edition → List ℕ → Answer Header
beginning e s =
    pick (ltb (length s) e.bytes) (λ _. refusal trace_too_short 0) λ _.
    pick (eqb (length s % e.bytes) 0) (λ _. decode_header e (join (octets e) (take e.bytes s))) λ _. refusal trace_odd_length 0

-- the number of letters, where the length is that of whole units
abbrev pub letter_count : Edition → List ℕ → ℕ
letter_count e s = length s / e.bytes - 1

-- the letter that the bytes of a unit pack
abbrev pub letter_in : Edition → Header → List ℕ → Answer Letter
letter_in e h part = decode_letter e h (join (octets e) part)

-- the letters after the header's unit
unfoldable pub letters_of : Edition → Header → List ℕ → TraceReading
letters_of e h s = letters_from (letter_in e h) h 1 (chunks e.bytes (letter_count e s) (drop e.bytes s))

-- The questions in their order; 5 is put where some number of letters is too many (SPEC 11.2).
unfoldable pub reading_where : (ℕ → Bool) → Edition → List ℕ → TraceReading
reading_where too_many e s =
    on_answer (beginning e s) (λ h. pick (too_many (letter_count e s)) (λ _. TraceReading.refused trace_too_long 0) λ _. letters_of e h s) TraceReading.refused

-- a trace of any length (SPEC 11.2)
abbrev pub reading : Edition → List ℕ → TraceReading
reading e s = reading_where (λ _. false) e s
