-- The lines of the monitor program for an answer of the run over a trace: a refusal, or the first incoherent letter and the first
-- infeasible one (SPEC 12.3).
use Rattle.std.specs.Prelude.{List, [], ◌∷◌, ◌++◌, ℕ, ◌≤◌, eqb, length}
use Rattle.base.specs.Choice.{pick}
use Rattle.letters.specs.Answers.{Answer, value, refusal}
use Rattle.text.specs.Numerals.{numeral}
use Rattle.text.specs.Appending.{Appended}
use Rattle.report.specs.Lines.{line, refused_line, coherent_word, incoherent_word, blank_word}
use Rattle.model_lines.specs.Prints.{infeasible_line}
use Rattle.text.specs.Templates.{filled_in}

-- "feasible"
abbrev pub feasible_word : List ℕ
feasible_word = 102 ∷ 101 ∷ 97 ∷ 115 ∷ 105 ∷ 98 ∷ 108 ∷ 101 ∷ []

unfoldable pub incoherent_line : ℕ → List ℕ
incoherent_line letter = line (incoherent_word ∷ blank_word ∷ numeral letter ∷ [])

-- Letters are numbered from 1: 0 stands for none, and has a line of its own.
unfoldable pub or_none : List ℕ → (ℕ → List ℕ) → ℕ → List ℕ
or_none none some letter = pick (eqb letter 0) (λ _. none) λ _. some letter

-- The template for a letter, or for none.
abbrev pub letter_text : List ℕ → List ℕ → ℕ → List ℕ
letter_text none some = or_none (filled_in none (0 ∷ 0 ∷ 0 ∷ 0 ∷ [])) λ letter. filled_in some (letter ∷ 0 ∷ 0 ∷ 0 ∷ [])

abbrev pub coherence_line : ℕ → List ℕ
coherence_line = or_none (line (coherent_word ∷ [])) incoherent_line

abbrev pub feasibility_line : ℕ → List ℕ
feasibility_line = or_none (line (feasible_word ∷ [])) infeasible_line

-- "the trace run numbers the letters": a line for the first incoherent letter and one for the first infeasible letter before it, or the
-- line of a refusal (SPEC 6.3, 12.3).
unfoldable pub answer_lines : Answer (ℕ × ℕ) → List ℕ
answer_lines (value (incoherent, infeasible)) = coherence_line incoherent ++ feasibility_line infeasible
answer_lines (refusal number place) = refused_line number place

-- No lines are longer: two words of ten bytes, two blanks, two numerals of twenty digits, two line feeds.
abbrev pub most_monitor_line_bytes : ℕ
most_monitor_line_bytes = 64

-- The lines were written into a lent buffer, as far as that goes, and their length given.
pub record PrintsMonitorLines (answer : Answer (ℕ × ℕ)) (entry : List ℕ) (size : ℕ) (exit : List ℕ) : Type 0 where
  pub few : length (answer_lines answer) ≤ most_monitor_line_bytes
  pub appended : Appended entry 0 (answer_lines answer) exit size
