-- A trace read into its unpacked letters: the reader's side of the writer, with the same questions to the output (SPEC 2.6, 11.2).
use Rattle.std.specs.Prelude.{◌≡◌, ℕ, ◌-◌, ◌/◌, List, ◌++◌, leb, length, drop}
use Rattle.std.proofs.lemmas.List.Edits.{sets}
use Rattle.base.specs.Choice.{pick}
use Rattle.letters.specs.declared.Header.{Header}
use Rattle.letters.specs.declared.Letter.{Letter}
use Rattle.letters.specs.Editions.{first_edition}
use Rattle.letters.specs.Answers.{Answer, value, refusal}
use Rattle.traces.specs.Reading.{TraceReading, trace, chunks, letter_in}
use Rattle.traces.specs.Writing.{unpacked_letter_bytes, plain_fields, unpacked_bytes}
use Rattle.traces.specs.Putting.{put_each}
use Rattle.letters.specs.RefusalNumbers.{output_too_small}

-- a letter's five bytes at a place
abbrev pub put_plain : Header → List ℕ → ℕ → Letter → List ℕ
put_plain h out to l = sets out to (plain_fields h l)

-- the letters behind the header, up to the first that is not well formed, five bytes each
abbrev pub put_unpacked : Header → List ℕ → List ℕ → List ℕ
put_unpacked h out s =
    let unit = first_edition.bytes in
    put_each (put_plain h) unpacked_letter_bytes (letter_in first_edition h) out 0 (chunks unit (length s / unit - 1) (drop unit s))

-- The header and the number of letters, or a refusal: the reading's, or 6 if the output is too short.
unfoldable pub unpacked_count : ℕ → TraceReading → Answer (Header × ℕ)
unpacked_count room (trace h ls) = pick (leb (length (unpacked_bytes h ls)) room) (λ _. value (h, length ls)) λ _. refusal output_too_small 0
unpacked_count room (TraceReading.refused number place) = refusal number place

-- "Refused calls write no output; bytes past a written answer stay." (SPEC 11.5)
unfoldable pub unpacked_over : List ℕ → TraceReading → List ℕ
unpacked_over out (trace h ls) =
    pick (leb (length (unpacked_bytes h ls)) (length out)) (λ _. unpacked_bytes h ls ++ drop (length (unpacked_bytes h ls)) out) λ _. out
unpacked_over out (TraceReading.refused number place) = out

-- What a call leaves: its answer, and every byte of the output.
pub record Unpacked (r : TraceReading) (entry exit : List ℕ) (answer : Answer (Header × ℕ)) : Type 0 where
  pub answered : answer ≡ unpacked_count (length entry) r
  pub bytes : exit ≡ unpacked_over entry r
