-- The packed trace of an execution, written from its last letter back, since the table leads from a pair to its parent.
use Rattle.std.specs.Prelude.{ℕ, ◌+◌, ◌-◌, ◌*◌, ◌<◌, List, ◌∷◌, map}
use Rattle.letters.specs.Capacity.{most_pairs}
use Rattle.letters.specs.declared.Header.{Header}
use Rattle.letters.specs.declared.Letter.{Letter}
use Rattle.letters.specs.Answers.{Answer, value, refusal}
use Rattle.letters.specs.Editions.{first_edition, most_letters}
use Rattle.letters.specs.Encoding.{encode_header, encode_letter}
use Rattle.traces.specs.Traces.{bytes_of}
use Rattle.table.specs.Table.{parent_at}

-- The bytes of a word.
abbrev pub unit_bytes : ℕ
unit_bytes = first_edition.bytes

-- The bytes of the longest trace: a header, and as many letters as the whole-trace engine takes.
abbrev pub trace_bytes : ℕ
trace_bytes = first_edition.bytes + first_edition.bytes * most_letters

-- Where its last letter begins.
abbrev pub last_letter : ℕ
last_letter = trace_bytes - first_edition.bytes

-- The moves of all pairs of a table, two each.
abbrev pub most_moves : ℕ
most_moves = 2 * most_pairs

-- Each pair below n but the first has a parent before it.
abbrev pub Older : List ℕ → ℕ → Type 0
Older t n = (j : ℕ) → 0 < j → j < n → parent_at t j < j

-- The word of a header or letter; 0 for one that is not well formed, which is never asked for.
abbrev pub word_or_zero : Answer ℕ → ℕ
word_or_zero (value w) = w
word_or_zero (refusal number place) = 0

abbrev pub letter_words : Header → List Letter → List ℕ
letter_words h ls = map (λ a. word_or_zero (encode_letter first_edition h a)) ls

-- The bytes of a trace (SPEC 2.4).
unfoldable pub traced : Header → List Letter → List ℕ
traced h ls = bytes_of first_edition (word_or_zero (encode_header first_edition h) ∷ letter_words h ls)
