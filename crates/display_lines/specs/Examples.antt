-- A line of each kind, and the line of a refusal (SPEC 12.1, 12.7).
use Rattle.std.specs.Prelude.{◌≡◌, refl, [], ◌∷◌, ◌++◌}
use Rattle.base.specs.Recursion.{within_calls, fixed}
use Rattle.traces.specs.Reading.{reading_where, beginning}
use Rattle.text.specs.Numerals.{numeral}
use Rattle.report.specs.Lines.{line, incoherent_word, coherent_word}
use Rattle.display_lines.specs.Lines.{fresh_word, state_line}
use Rattle.display_lines.specs.Display.{display_lines}

-- 0 fresh 3 0000000000000000
pub fresh_example : state_line fresh_word 0 3 0 ≡
    (48 ∷ 32 ∷ 102 ∷ 114 ∷ 101 ∷ 115 ∷ 104 ∷ 32 ∷ 51 ∷ 32 ∷ [])
    ++ (48 ∷ 48 ∷ 48 ∷ 48 ∷ 48 ∷ 48 ∷ 48 ∷ 48 ∷ 48 ∷ 48 ∷ 48 ∷ 48 ∷ 48 ∷ 48 ∷ 48 ∷ 48 ∷ 10 ∷ [])
unfolding state_line line numeral fixed within_calls
fresh_example = refl

-- 3 coherent 2 0000000000010004
pub coherent_example : state_line coherent_word 3 2 65540 ≡
    (51 ∷ 32 ∷ 99 ∷ 111 ∷ 104 ∷ 101 ∷ 114 ∷ 101 ∷ 110 ∷ 116 ∷ 32 ∷ 50 ∷ 32 ∷ [])
    ++ (48 ∷ 48 ∷ 48 ∷ 48 ∷ 48 ∷ 48 ∷ 48 ∷ 48 ∷ 48 ∷ 48 ∷ 48 ∷ 49 ∷ 48 ∷ 48 ∷ 48 ∷ 52 ∷ 10 ∷ [])
unfolding state_line line numeral fixed within_calls
coherent_example = refl

-- 12 incoherent 8 40c0000000000000
pub incoherent_example : state_line incoherent_word 12 8 4665729213955833856 ≡
    (49 ∷ 50 ∷ 32 ∷ 105 ∷ 110 ∷ 99 ∷ 111 ∷ 104 ∷ 101 ∷ 114 ∷ 101 ∷ 110 ∷ 116 ∷ 32 ∷ 56 ∷ 32 ∷ [])
    ++ (52 ∷ 48 ∷ 99 ∷ 48 ∷ 48 ∷ 48 ∷ 48 ∷ 48 ∷ 48 ∷ 48 ∷ 48 ∷ 48 ∷ 48 ∷ 48 ∷ 48 ∷ 48 ∷ 10 ∷ [])
unfolding state_line line numeral fixed within_calls
incoherent_example = refl

-- refused 2 at 0: of three bytes nothing is judged
pub odd_example : display_lines (48 ∷ 0 ∷ 0 ∷ []) ≡ 114 ∷ 101 ∷ 102 ∷ 117 ∷ 115 ∷ 101 ∷ 100 ∷ 32 ∷ 50 ∷ 32 ∷ 97 ∷ 116 ∷ 32 ∷ 48 ∷ 10 ∷ []
unfolding display_lines reading_where beginning line numeral fixed within_calls
odd_example = refl
