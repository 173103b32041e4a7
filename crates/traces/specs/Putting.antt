-- How letters get into the output, for the contracts of private functions: each letter's word or bytes are put at their place, up to the first letter
-- that has none.
use Rattle.std.specs.Prelude.{ℕ, ◌+◌, List, [], ◌∷◌}
use Rattle.letters.specs.declared.Header.{Header}
use Rattle.letters.specs.Editions.{Edition, first_edition}
use Rattle.letters.specs.Answers.{Answer, refusal, on_answer}
use Rattle.letters.specs.Encoding.{encode_letter}
use Rattle.letters.specs.Putting.{put_word}
use Rattle.traces.specs.Writing.{unpack_letter}
use Rattle.letters.specs.RefusalNumbers.{letter_malformed}

-- the word of an unpacked letter
unfoldable pub word_in : Edition → Header → List ℕ → Answer ℕ
word_in e h s = on_answer (unpack_letter h s) (encode_letter e h) λ _ _. refusal letter_malformed 0

-- what each of these codes gives, put from a place on, n entries for each
unfoldable pub put_each : {A B : Type 0} → (List ℕ → ℕ → B → List ℕ) → ℕ → (A → Answer B) → List ℕ → ℕ → List A → List ℕ
put_each put n decode out to [] = out
put_each put n decode out to (x ∷ codes) = on_answer (decode x) (λ b. put_each put n decode (put out to b) (to + n) codes) λ _ _. out

-- the words of these codes
abbrev pub put_words : {A : Type 0} → (A → Answer ℕ) → List ℕ → ℕ → List A → List ℕ
put_words word out to codes = put_each put_word first_edition.bytes word out to codes
