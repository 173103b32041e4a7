-- The line of the model program for the bytes of a trace: a refusal, the first infeasible letter, or the shown model in
-- hexadecimal (SPEC 12.4; document 01).
use Rattle.std.specs.Prelude.{Ok, Err, List, [], ◌∷◌, ◌++◌, ℕ, ◌/◌, ◌%◌, ◌≤◌, eqb, length, take}
use Rattle.io.specs.Digits.{hex_digit_ascii}
use Rattle.base.specs.Choice.{pick}
use Rattle.letters.specs.Editions.{first_edition, most_letters}
use Rattle.traces.specs.Reading.{TraceReading, trace}
use Rattle.traces.specs.ReadingParts.{reading_within}
use Rattle.semantics.specs.Terms.{state, trace_of}
use Rattle.semantics.specs.FirstLetters.{first_infeasible}
use Rattle.text.specs.Numerals.{numeral}
use Rattle.text.specs.Appending.{Appended}
use Rattle.report.specs.Lines.{line, refused_line}
use Rattle.model_writer.specs.declared.Shown.TheVariants.{Model, Infeasible}
use Rattle.letters.specs.Reasons.{number_of}
use Rattle.model_writer.specs.Answer.{ShowResult, model_bytes}

-- The digits of bytes, two for each, the higher first.
unfoldable pub octet_text : ℕ → List ℕ
octet_text byte = hex_digit_ascii (byte / 16) ∷ hex_digit_ascii (byte % 16) ∷ []

unfoldable pub hex_text : List ℕ → List ℕ
hex_text [] = []
hex_text (byte ∷ bytes) = octet_text byte ++ hex_text bytes

-- "model "
abbrev pub model_word : List ℕ
model_word = 109 ∷ 111 ∷ 100 ∷ 101 ∷ 108 ∷ 32 ∷ []

-- "infeasible "
abbrev pub infeasible_word : List ℕ
infeasible_word = 105 ∷ 110 ∷ 102 ∷ 101 ∷ 97 ∷ 115 ∷ 105 ∷ 98 ∷ 108 ∷ 101 ∷ 32 ∷ []

unfoldable pub model_line : List ℕ → List ℕ
model_line bytes = line (model_word ∷ hex_text bytes ∷ [])

unfoldable pub infeasible_line : ℕ → List ℕ
infeasible_line letter = line (infeasible_word ∷ numeral letter ∷ [])

-- "An infeasible trace gets the first letter at which it is so, and no output. For a feasible trace, coherent or not:" the model (SPEC 7.1).
unfoldable pub read_line : TraceReading → List ℕ
read_line (TraceReading.refused number place) = refused_line number place
read_line (trace h ls) =
    pick (eqb (first_infeasible (trace_of h ls)) 0) (λ _. model_line (model_bytes (state (trace_of h ls))))
    λ _. infeasible_line (first_infeasible (trace_of h ls))

-- The line for the bytes of a trace. Every model fits, so that there is no refusal by 6 (SPEC 12.4).
abbrev pub line_for : List ℕ → List ℕ
line_for s = read_line (reading_within most_letters first_edition s)

-- The line of an answer, whose model is in the front of some bytes.
unfoldable pub line_of : ShowResult → List ℕ → List ℕ
line_of (Ok (Model n)) out = model_line (take n out)
line_of (Ok (Infeasible letter)) out = infeasible_line letter
line_of (Err r) out = refused_line (number_of r.reason) r.place

-- No line is longer.
abbrev pub most_model_line_bytes : ℕ
most_model_line_bytes = 10367

-- The line was written into a lent buffer, as far as that goes, and its length given.
pub record PrintsModelLine (s entry : List ℕ) (size : ℕ) (exit : List ℕ) : Type 0 where
  pub few : length (line_for s) ≤ most_model_line_bytes
  pub appended : Appended entry 0 (line_for s) exit size
