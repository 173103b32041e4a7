-- The lines of the program `display` in a lent buffer (SPEC 12.7).
use Rattle.std.specs.Prelude.{◌≡◌, List, ◌++◌, ℕ, ◌*◌, ◌/◌, ◌≤◌, ◌<◌, leb, length, drop, Result, Ok, Err}
use Rattle.base.specs.Choice.{pick}
use Rattle.letters.specs.Editions.{first_edition}
use Rattle.files.specs.Lines.{Known, bytes, unread}
use Rattle.display_lines.specs.declared.NotJudged.{NotJudged}
use Rattle.display_lines.specs.declared.NotJudged.TheVariants.{TooLong, Unread}
use Rattle.display_lines.specs.Says.{SaysDisplay}

-- A longer trace is not judged (SPEC 12.7).
abbrev pub most_trace_bytes : ℕ
most_trace_bytes = 65536

-- No line is longer: five digits, `incoherent`, three digits, sixteen digits, three blanks and a line feed.
abbrev pub longest_line : ℕ
longest_line = 38

-- A line for the header and one for each letter.
abbrev pub most_display_lines : ℕ
most_display_lines = most_trace_bytes / first_edition.bytes

-- The lines are never longer.
abbrev pub most_display_line_bytes : ℕ
most_display_line_bytes = most_display_lines * longest_line

-- A lent buffer holds `entry` and then `exit`, and `size` is given: the lines stand in front and the bytes behind them stay; or, in a buffer of fewer
-- than `most_display_line_bytes`, all bytes stay, and 0 is given.
pub record PrintsDisplayLines (s entry : List ℕ) (size : ℕ) (exit : List ℕ) : Type 0 where
  pub lines : List ℕ
  pub says : SaysDisplay s lines
  pub few : size ≤ most_display_line_bytes
  pub given : size ≡ pick (leb most_display_line_bytes (length entry)) (λ _. length lines) λ _. 0
  pub stands : exit ≡ pick (leb most_display_line_bytes (length entry)) (λ _. lines ++ drop (length lines) entry) λ _. entry

-- A trace that is not too long is judged as a whole; of a longer one nothing is judged, and the buffer stays.
abbrev pub DisplaysTrace : List ℕ → List ℕ → Result ℕ NotJudged → List ℕ → Type 0
DisplaysTrace s entry (Ok size) exit = (length s ≤ most_trace_bytes) × PrintsDisplayLines s entry size exit
DisplaysTrace s entry (Err TooLong) exit = (most_trace_bytes < length s) × (exit ≡ entry)
DisplaysTrace s entry (Err Unread) exit = ⊥

-- What is made of an input; where a read failed nothing is judged, and the buffer stays (SPEC 12.5).
abbrev pub DisplaysKnown : Known → List ℕ → Result ℕ NotJudged → List ℕ → Type 0
DisplaysKnown (bytes s) entry r exit = DisplaysTrace s entry r exit
DisplaysKnown unread entry (Ok size) exit = ⊥
DisplaysKnown unread entry (Err TooLong) exit = ⊥
DisplaysKnown unread entry (Err Unread) exit = exit ≡ entry
