-- A trace that is too long has the line of its first `most_trace_read` bytes, or `odd_read` where its length is odd: "Even length? 2. Header as above? 3.", and
-- "at most 1,024 letters? 5" before the letters.
use mathlib.Core.Path.{◌≡◌, refl, sym, ap, ◌∙◌}
use mathlib.Core.List.{List}
use Prim.Native.Nat.{ℕ, ◌-◌, ◌/◌, ◌%◌, ◌≤◌}
use native.Mathlib.Omega.{arith}
use lib.ListN.{length, take}
use lib.Seq.{length-take-le, take-take}
use borrow.Author.Tests.{lt-ltb, le-ltb, eq-eqb, ne_eqb}
use Rattle.letters.specs.Editions.{first_edition, most_letters}
use Rattle.letters.specs.RefusalNumbers.{trace_odd_length, trace_too_long}
use Rattle.letters.specs.Packing.{join}
use Rattle.letters.specs.Answers.{on_answer}
use Rattle.letters.specs.Coding.{decode_header}
use Rattle.traces.specs.Reading.{TraceReading, octets, beginning, reading_where}
use Rattle.traces.specs.ReadingParts.{reading_within}
use Rattle.model_lines.specs.Prints.{read_line, line_for}
use Rattle.model_lines.specs.Answered.{most_trace_read, odd_read}

-- Only the header's unit matters.
abbrev headed : List ℕ → TraceReading
headed unit = on_answer (decode_header first_edition (join (octets first_edition) unit)) (λ h. TraceReading.refused trace_too_long 0) TraceReading.refused

even_reading : (s : List ℕ) → most_trace_read ≤ length s → length s % 2 ≡ 0 → reading_within most_letters first_edition s ≡ headed (take 2 s)
unfolding reading_where beginning
even_reading s l e = rw (le-ltb (length s) 2 (omega arith), eq-eqb (length s % 2) 0 e, lt-ltb most_letters (length s / 2 - 1) (omega arith)) refl

odd_reading : (s : List ℕ) → odd_read ≤ length s → length s % 2 ≡ 1 → reading_within most_letters first_edition s ≡ TraceReading.refused trace_odd_length 0
unfolding reading_where beginning
odd_reading s l e = rw (le-ltb (length s) 2 (omega arith), ne_eqb (length s % 2) 0 (λ z. omega arith)) refl

pub even_line : (s : List ℕ) → most_trace_read ≤ length s → length s % 2 ≡ 0 → line_for (take most_trace_read s) ≡ line_for s
even_line s l e =
    let k = length-take-le most_trace_read s l in
    ap read_line (even_reading (take most_trace_read s) (omega (arith, k)) (omega (arith, k)) ∙ ap headed (take-take 2 most_trace_read s (omega arith))
    ∙ sym (even_reading s l e))

pub odd_line : (s : List ℕ) → odd_read ≤ length s → length s % 2 ≡ 1 → line_for (take odd_read s) ≡ line_for s
odd_line s l e =
    let k = length-take-le odd_read s l in
    ap read_line (odd_reading (take odd_read s) (omega (arith, k)) (omega (arith, k)) ∙ sym (odd_reading s l e))
