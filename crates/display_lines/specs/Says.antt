-- What the lines of the program `display` say of a trace (SPEC 12.7; document 02, 5 and 6).
use Rattle.std.specs.Prelude.{◌≡◌, ℕ, List, [], ◌∷◌, ◌++◌}
use Rattle.letters.specs.declared.Header.{Header}
use Rattle.letters.specs.declared.Letter.{Letter}
use Rattle.letters.specs.Editions.{first_edition}
use Rattle.traces.specs.Reading.{TraceReading, trace, reading}
use Rattle.semantics.specs.Terms.{Trace, begin, ◌▸◌, state}
use Rattle.semantics.specs.Coherence.{Coherent}
use Rattle.semantics.specs.Judgement.{size, Longest}
use Rattle.window.specs.Classes.{ClassCount}
use Rattle.unequal_flags.specs.Flags.{WordOfState}
use Rattle.report.specs.Lines.{refused_line, incoherent_word, coherent_word}
use Rattle.display_lines.specs.Lines.{fresh_word, state_line}

-- The line of a trace: its number of letters, and of its longest coherent beginning the number of classes and the unequal pairs by the word (SPEC 5.7, 5.8,
-- 6.2, 12.7).
pub record ShowsState (ρ : Trace) (said text : List ℕ) : Type 0 where
  pub classes : ℕ
  pub word : ℕ
  pub counts : (π : Trace) → Longest ρ π → ClassCount (state π) classes
  pub flags : (π : Trace) → Longest ρ π → WordOfState (state π) word
  pub line_is : text ≡ state_line said (size ρ) classes word

-- The line after a letter: `coherent` or `incoherent`, as the trace up to that letter is (SPEC 4.6, 12.7).
pub record JudgesLast (ρ : Trace) (text : List ℕ) : Type 0 where
  pub coherent : Coherent ρ → ShowsState ρ coherent_word text
  pub incoherent : ¬ Coherent ρ → ShowsState ρ incoherent_word text

-- A line after each of the letters that follow a trace (SPEC 12.7).
abbrev pub SaysLetters : Trace → List Letter → List ℕ → Type 0
SaysLetters ρ [] lines = lines ≡ []
SaysLetters ρ (a ∷ letters) lines =
    (first rest : List ℕ) × (lines ≡ first ++ rest) × JudgesLast (ρ ▸ a) first × SaysLetters (ρ ▸ a) letters rest

-- A line before the first letter, `fresh`, and one after each (SPEC 12.7).
pub record SaysTrace (h : Header) (letters : List Letter) (lines : List ℕ) : Type 0 where
  pub first : List ℕ
  pub rest : List ℕ
  pub whole : lines ≡ first ++ rest
  pub fresh : ShowsState (begin h) fresh_word first
  pub each : SaysLetters (begin h) letters rest

-- The lines for the bytes of a trace (SPEC 12.7).
pub record SaysDisplay (bytes lines : List ℕ) : Type 0 where
  -- a trace that is refused, by 1 to 4: one line, and nothing of it is judged (SPEC 11.2)
  pub refused : (number place : ℕ) → reading first_edition bytes ≡ TraceReading.refused number place → lines ≡ refused_line number place
  pub judged : (h : Header) (letters : List Letter) → reading first_edition bytes ≡ trace h letters → SaysTrace h letters lines
