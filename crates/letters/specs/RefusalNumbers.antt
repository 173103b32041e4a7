-- The numbers of the refusals of a trace (SPEC 11.2; document 01), each with its question; those of a macro alone: MacroRefusalNumbers.
use Rattle.std.specs.Prelude.{ℕ}

-- Of a trace. "At least two bytes? 1." (SPEC 11.2)
abbrev pub trace_too_short : ℕ
trace_too_short = 1

-- "Even length? 2." (SPEC 11.2)
abbrev pub trace_odd_length : ℕ
trace_odd_length = 2

-- "Header as above? 3." (SPEC 11.2)
abbrev pub header_malformed : ℕ
header_malformed = 3

-- "A letter that is not well formed ends the reading with 4 and its number, from 1." (SPEC 11.2)
abbrev pub letter_malformed : ℕ
letter_malformed = 4

-- "For the whole-trace engine, at most 1,024 letters? 5." (SPEC 11.2)
abbrev pub trace_too_long : ℕ
trace_too_long = 5

-- "Does a due model fit the output? 6." Of a macro: "Answer fits the output? 6." (SPEC 11.2, 11.3)
abbrev pub output_too_small : ℕ
output_too_small = 6
