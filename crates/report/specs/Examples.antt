-- Document 01's worked example (SPEC 12.2), byte for byte, and a refusal.
use Rattle.std.specs.Prelude.{◌≡◌, refl, Ok, ℕ, List, [], ◌∷◌, ◌++◌, get_or}
use Rattle.base.specs.Recursion.{within_calls, fixed}
use Rattle.letters.specs.MacroRefusalNumbers.{grammar_violated}
use Rattle.letters.specs.declared.Header.{Header}
use Rattle.letters.specs.declared.Letter.{Letter}
use Rattle.letters.specs.declared.Letter.TheVariants.{Apply, Unequal}
use Rattle.semantics.specs.Tables.{Row, Tables}
use Rattle.semantics.specs.PackedTables.{second_written}
use Rattle.semantics.specs.TablesRead.{second_meant, units_in, row_from, read_tables}
use Rattle.letters.specs.Words as words
use Rattle.letters.specs.Coding as coding
use Rattle.traces.specs.ReadingParts.{letter_at}
use Rattle.text.specs.Numerals.{numeral}
use Rattle.report.specs.declared.ReportedVerdict.TheVariants.{Fail}
use Rattle.report.specs.Shown.{letter_or_copy, letters_in, printed_of}
use Rattle.report.specs.Lines.{Names, Printed, line, lines_of, letter_line, start_lines, row_line, letter_lines, model_lines, verdict_lines, report}

-- vars raster corner sum duty; funs cap/1 add/2;
abbrev pub example_header : Header
example_header = record { registers = 4; functions = 2; binary = 2 }

abbrev pub example_names : Names
example_names = record {
  register = λ r. get_or ((114 ∷ 97 ∷ 115 ∷ 116 ∷ 101 ∷ 114 ∷ []) ∷ (99 ∷ 111 ∷ 114 ∷ 110 ∷ 101 ∷ 114 ∷ []) ∷ (115 ∷ 117 ∷ 109 ∷ []) ∷
      (100 ∷ 117 ∷ 116 ∷ 121 ∷ []) ∷ []) r [];
  function = λ f. get_or ((99 ∷ 97 ∷ 112 ∷ []) ∷ (97 ∷ 100 ∷ 100 ∷ []) ∷ []) f [];
}

-- sum := add(raster,corner); duty := cap(raster); duty := add(duty,corner); sum := cap(sum); assume duty != sum
abbrev pub example_letters : List Letter
example_letters = Apply 2 1 0 1 ∷ Apply 3 0 0 0 ∷ Apply 3 1 3 1 ∷ Apply 2 0 2 2 ∷ Unequal 3 2 ∷ []

abbrev pub example_row : ℕ → ℕ → ℕ → ℕ → Row
example_row f a b r = record { function = f; first = a; second = b; result = r }

-- A row of a function of one argument has that argument twice.
abbrev pub example_tables : Tables
example_tables = record {
  count = 9;
  starts = 1 ∷ 2 ∷ 3 ∷ 4 ∷ [];
  rows = example_row 1 1 2 5 ∷ example_row 0 1 1 6 ∷ example_row 1 6 2 7 ∷ example_row 0 5 5 8 ∷ [];
}

-- verdict fail
-- pairs 5
-- letters 5
-- sum := add(raster,corner)
-- duty := cap(raster)
-- duty := add(duty,corner)
-- sum := cap(sum)
-- assume duty != sum
-- values 9
-- start raster 1
-- start corner 2
-- start sum 3
-- start duty 4
-- row add 1 2 5
-- row cap 1 0 6
-- row add 6 2 7
-- row cap 5 0 8
pub worked_example : report example_names example_header (Printed.fail 5 example_letters example_tables) ≡
    (118 ∷ 101 ∷ 114 ∷ 100 ∷ 105 ∷ 99 ∷ 116 ∷ 32 ∷ 102 ∷ 97 ∷ 105 ∷ 108 ∷ 10 ∷ [])
    ++ (112 ∷ 97 ∷ 105 ∷ 114 ∷ 115 ∷ 32 ∷ 53 ∷ 10 ∷ [])
    ++ (108 ∷ 101 ∷ 116 ∷ 116 ∷ 101 ∷ 114 ∷ 115 ∷ 32 ∷ 53 ∷ 10 ∷ [])
    ++ (115 ∷ 117 ∷ 109 ∷ 32 ∷ 58 ∷ 61 ∷ 32 ∷ 97 ∷ 100 ∷ 100 ∷ 40 ∷ 114 ∷ 97 ∷ 115 ∷ 116 ∷ 101 ∷ 114 ∷ 44 ∷ 99 ∷ 111 ∷ 114 ∷ 110 ∷ 101 ∷ 114 ∷ 41 ∷ 10 ∷ [])
    ++ (100 ∷ 117 ∷ 116 ∷ 121 ∷ 32 ∷ 58 ∷ 61 ∷ 32 ∷ 99 ∷ 97 ∷ 112 ∷ 40 ∷ 114 ∷ 97 ∷ 115 ∷ 116 ∷ 101 ∷ 114 ∷ 41 ∷ 10 ∷ [])
    ++ (100 ∷ 117 ∷ 116 ∷ 121 ∷ 32 ∷ 58 ∷ 61 ∷ 32 ∷ 97 ∷ 100 ∷ 100 ∷ 40 ∷ 100 ∷ 117 ∷ 116 ∷ 121 ∷ 44 ∷ 99 ∷ 111 ∷ 114 ∷ 110 ∷ 101 ∷ 114 ∷ 41 ∷ 10 ∷ [])
    ++ (115 ∷ 117 ∷ 109 ∷ 32 ∷ 58 ∷ 61 ∷ 32 ∷ 99 ∷ 97 ∷ 112 ∷ 40 ∷ 115 ∷ 117 ∷ 109 ∷ 41 ∷ 10 ∷ [])
    ++ (97 ∷ 115 ∷ 115 ∷ 117 ∷ 109 ∷ 101 ∷ 32 ∷ 100 ∷ 117 ∷ 116 ∷ 121 ∷ 32 ∷ 33 ∷ 61 ∷ 32 ∷ 115 ∷ 117 ∷ 109 ∷ 10 ∷ [])
    ++ (118 ∷ 97 ∷ 108 ∷ 117 ∷ 101 ∷ 115 ∷ 32 ∷ 57 ∷ 10 ∷ [])
    ++ (115 ∷ 116 ∷ 97 ∷ 114 ∷ 116 ∷ 32 ∷ 114 ∷ 97 ∷ 115 ∷ 116 ∷ 101 ∷ 114 ∷ 32 ∷ 49 ∷ 10 ∷ [])
    ++ (115 ∷ 116 ∷ 97 ∷ 114 ∷ 116 ∷ 32 ∷ 99 ∷ 111 ∷ 114 ∷ 110 ∷ 101 ∷ 114 ∷ 32 ∷ 50 ∷ 10 ∷ [])
    ++ (115 ∷ 116 ∷ 97 ∷ 114 ∷ 116 ∷ 32 ∷ 115 ∷ 117 ∷ 109 ∷ 32 ∷ 51 ∷ 10 ∷ [])
    ++ (115 ∷ 116 ∷ 97 ∷ 114 ∷ 116 ∷ 32 ∷ 100 ∷ 117 ∷ 116 ∷ 121 ∷ 32 ∷ 52 ∷ 10 ∷ [])
    ++ (114 ∷ 111 ∷ 119 ∷ 32 ∷ 97 ∷ 100 ∷ 100 ∷ 32 ∷ 49 ∷ 32 ∷ 50 ∷ 32 ∷ 53 ∷ 10 ∷ [])
    ++ (114 ∷ 111 ∷ 119 ∷ 32 ∷ 99 ∷ 97 ∷ 112 ∷ 32 ∷ 49 ∷ 32 ∷ 48 ∷ 32 ∷ 54 ∷ 10 ∷ [])
    ++ (114 ∷ 111 ∷ 119 ∷ 32 ∷ 97 ∷ 100 ∷ 100 ∷ 32 ∷ 54 ∷ 32 ∷ 50 ∷ 32 ∷ 55 ∷ 10 ∷ [])
    ++ (114 ∷ 111 ∷ 119 ∷ 32 ∷ 99 ∷ 97 ∷ 112 ∷ 32 ∷ 53 ∷ 32 ∷ 48 ∷ 32 ∷ 56 ∷ 10 ∷ [])
unfolding report verdict_lines letter_lines model_lines line lines_of letter_line start_lines row_line second_written numeral fixed within_calls
worked_example = refl

-- The bytes of that answer, the trace and the model behind it, and two bytes more.
abbrev pub example_bytes : List ℕ
example_bytes = 68 ∷ 128 ∷ 84 ∷ 8 ∷ 70 ∷ 0 ∷ 86 ∷ 200 ∷ 68 ∷ 128 ∷ 192 ∷ 208 ∷ 0 ∷ 9 ∷ 0 ∷ 4 ∷ 0 ∷ 1 ∷ 0 ∷ 2 ∷ 0 ∷ 3 ∷ 0 ∷ 4 ∷ 64 ∷ 8 ∷ 2 ∷ 0 ∷ 160 ∷ 0 ∷ 8 ∷
    0 ∷ 0 ∷ 192 ∷ 64 ∷ 48 ∷ 2 ∷ 0 ∷ 224 ∷ 0 ∷ 40 ∷ 0 ∷ 1 ∷ 0 ∷ 255 ∷ 255 ∷ []

-- They are read as those letters and tables.
pub shown_example : printed_of example_header (Ok (Fail 5 5)) example_bytes ≡ Printed.fail 5 example_letters example_tables
unfolding printed_of letters_in letter_or_copy letter_at coding.decode_letter coding.named_letter coding.letter_by coding.fits_test coding.apply_test
    coding.header_test words.header_word words.letter_word read_tables units_in row_from second_meant
shown_example = refl

-- refused 9 at 17
pub refusal_example : report example_names example_header (Printed.refused grammar_violated 17) ≡
    114 ∷ 101 ∷ 102 ∷ 117 ∷ 115 ∷ 101 ∷ 100 ∷ 32 ∷ 57 ∷ 32 ∷ 97 ∷ 116 ∷ 32 ∷ 49 ∷ 55 ∷ 10 ∷ []
unfolding report line numeral fixed within_calls
refusal_example = refl
