-- A monitor that is given a word after the other, whatever the words are, and the letters that it takes of them (SPEC 6.1, 6.2).
use Rattle.std.specs.Prelude.{ℕ, List, [], ◌∷◌}
use Rattle.letters.specs.Answers.{on_answer}
use Rattle.letters.specs.Coding.{decode_letter}
use Rattle.letters.specs.Editions.{first_edition}
use Rattle.semantics.specs.Terms.{Trace, ◌▸◌, state}
use Rattle.streaming.specs.Monitor.{advance}
use Rattle.streaming.specs.declared.Monitor.{Monitor}

-- the monitor after these words
unfoldable pub after_words : Monitor → List ℕ → Monitor
after_words m [] = m
after_words m (word ∷ words) = after_words (advance m word).monitor words

-- the trace with the letters of these words, refused ones left out
unfoldable pub taken_letters : Trace → List ℕ → Trace
taken_letters ρ [] = ρ
taken_letters ρ (word ∷ words) = on_answer (decode_letter first_edition (state ρ).header word) (λ a. taken_letters (ρ ▸ a) words) λ _ _. taken_letters ρ words
