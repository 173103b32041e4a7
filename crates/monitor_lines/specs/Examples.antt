-- The lines of a trace of each kind, and of a refusal (SPEC 12.1, 12.3).
use Rattle.std.specs.Prelude.{◌≡◌, refl, [], ◌∷◌, ◌++◌}
use Rattle.base.specs.Recursion.{within_calls, fixed}
use Rattle.letters.specs.Answers.{value, refusal}
use Rattle.letters.specs.RefusalNumbers.{letter_malformed}
use Rattle.text.specs.Numerals.{numeral}
use Rattle.report.specs.Lines.{line}
use Rattle.model_lines.specs.Prints.{infeasible_line}
use Rattle.monitor_lines.specs.Prints.{incoherent_line, or_none, answer_lines}

-- coherent
-- feasible
pub neither : answer_lines (value (0, 0)) ≡
    (99 ∷ 111 ∷ 104 ∷ 101 ∷ 114 ∷ 101 ∷ 110 ∷ 116 ∷ 10 ∷ [])
    ++ (102 ∷ 101 ∷ 97 ∷ 115 ∷ 105 ∷ 98 ∷ 108 ∷ 101 ∷ 10 ∷ [])
unfolding answer_lines or_none line
neither = refl

-- incoherent 4
-- infeasible 1
pub both_letters : answer_lines (value (4, 1)) ≡
    (105 ∷ 110 ∷ 99 ∷ 111 ∷ 104 ∷ 101 ∷ 114 ∷ 101 ∷ 110 ∷ 116 ∷ 32 ∷ 52 ∷ 10 ∷ [])
    ++ (105 ∷ 110 ∷ 102 ∷ 101 ∷ 97 ∷ 115 ∷ 105 ∷ 98 ∷ 108 ∷ 101 ∷ 32 ∷ 49 ∷ 10 ∷ [])
unfolding answer_lines or_none incoherent_line infeasible_line line numeral fixed within_calls
both_letters = refl

-- refused 4 at 12
pub malformed_letter : answer_lines (refusal letter_malformed 12) ≡
    114 ∷ 101 ∷ 102 ∷ 117 ∷ 115 ∷ 101 ∷ 100 ∷ 32 ∷ 52 ∷ 32 ∷ 97 ∷ 116 ∷ 32 ∷ 49 ∷ 50 ∷ 10 ∷ []
unfolding answer_lines line numeral fixed within_calls
malformed_letter = refl
