-- What an Option of the code answers: its value, or the refusal that its absence stands for.
use Rattle.std.specs.Prelude.{ℕ, Option, Some, None}
use Rattle.letters.specs.declared.Header.{Header}
use Rattle.letters.specs.declared.Letter.{Letter}
use Rattle.letters.specs.Answers.{Answer, value, refusal}
use Rattle.letters.specs.RefusalNumbers.{header_malformed, letter_malformed}

-- "Header as above? 3." (SPEC 11.2)
abbrev pub header_answer : Option Header → Answer Header
header_answer (Some h) = value h
header_answer None = refusal header_malformed 0

-- "Each letter well formed?" 4, here with place 0: whoever reads a trace numbers its letters (SPEC 11.2).
abbrev pub letter_answer : Option Letter → Answer Letter
letter_answer (Some l) = value l
letter_answer None = refusal letter_malformed 0

-- the word of a header
abbrev pub header_word_answer : Option ℕ → Answer ℕ
header_word_answer (Some w) = value w
header_word_answer None = refusal header_malformed 0

-- the word of a letter
abbrev pub letter_word_answer : Option ℕ → Answer ℕ
letter_word_answer (Some w) = value w
letter_word_answer None = refusal letter_malformed 0
