-- The lines of the program `display`, computed by the monitor, one letter a call (SPEC 6.1, 6.2, 12.7).
use Rattle.std.specs.Prelude.{ℕ, ◌+◌, ◌*◌, List, [], ◌∷◌, ◌++◌, get_or, drop}
use Rattle.base.specs.Bytes.{byte_values}
use Rattle.base.specs.Choice.{pick}
use Rattle.letters.specs.Answers.{on_answer}
use Rattle.letters.specs.Editions.{first_edition}
use Rattle.traces.specs.Reading.{reading}
use Rattle.traces.specs.ReadingParts.{counted}
use Rattle.window.specs.Layout.{registers}
use Rattle.window.specs.declared.Window.{Window}
use Rattle.unequal_flags.specs.Words.{unequal_word}
use Rattle.streaming.specs.Monitor.{start_of, advance}
use Rattle.streaming.specs.declared.Monitor.{Monitor}
use Rattle.report.specs.Lines.{refused_line, incoherent_word, coherent_word}
use Rattle.display_lines.specs.Lines.{fresh_word, state_line}

-- the unequal pairs of a window by the word
abbrev pub displayed_word : Window → ℕ
displayed_word w = unequal_word registers w 0

-- the line of a monitor after so many letters
unfoldable pub monitor_line : List ℕ → ℕ → Monitor → List ℕ
monitor_line said letters m = state_line said letters m.window.classes (displayed_word m.window)

-- the line after a letter: the monitor still runs exactly if all letters so far are coherent
unfoldable pub judged_line : ℕ → Monitor → List ℕ
judged_line letters m = pick m.running (λ _. monitor_line coherent_word letters m) λ _. monitor_line incoherent_word letters m

-- letter after letter, two bytes a word, from the monitor after so many letters
unfoldable pub lines_after : ℕ → Monitor → List ℕ → List ℕ
lines_after letters m [] = []
lines_after letters m (high ∷ []) = []
lines_after letters m (high ∷ low ∷ bytes) =
    let next = (advance m (high * byte_values + low)).monitor in judged_line (letters + 1) next ++ lines_after (letters + 1) next bytes

-- the lines for the bytes of a trace
unfoldable pub trace_lines : List ℕ → List ℕ
trace_lines bytes =
    let m = (start_of (get_or bytes 0 0 * byte_values + get_or bytes 1 0)).monitor in
    monitor_line fresh_word 0 m ++ lines_after 0 m (drop first_edition.bytes bytes)

-- the lines for any bytes: a trace that is refused has one line, and nothing of it is judged
unfoldable pub display_lines : List ℕ → List ℕ
display_lines bytes = on_answer (counted (reading first_edition bytes)) (λ _. trace_lines bytes) refused_line
