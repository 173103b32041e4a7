-- The word of what is well formed (SPEC 2.2, 2.3).
use Rattle.std.specs.Prelude.{ℕ, ◌&&◌}
use Rattle.letters.specs.declared.Header.{Header}
use Rattle.letters.specs.Editions.{Edition}
use Rattle.base.specs.Choice.{pick}
use Rattle.letters.specs.Answers.{Answer, value, refusal}
use Rattle.letters.specs.Words.{header_word, letter_word}
use Rattle.letters.specs.Coding.{header_test, fits_test}
use Rattle.letters.specs.declared.Letter.{Letter}
use Rattle.letters.specs.RefusalNumbers.{header_malformed, letter_malformed}

unfoldable pub encode_header : Edition → Header → Answer ℕ
encode_header e h = pick (header_test e h) (λ _. value (header_word e h)) λ _. refusal header_malformed 0

-- A letter is well formed under a well-formed header only (SPEC 2.3).
unfoldable pub encode_letter : Edition → Header → Letter → Answer ℕ
encode_letter e h l = pick (header_test e h && fits_test h l) (λ _. value (letter_word e h l)) λ _. refusal letter_malformed 0
