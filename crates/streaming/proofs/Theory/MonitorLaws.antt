-- The monitor's step, case by case.
use mathlib.Core.Path.{◌≡◌, refl, sym, ap, ◌∙◌}
use mathlib.Core.Bool.{true, false}
use Prim.Native.Nat.{ℕ}
use Rattle.letters.specs.declared.Header.{Header}
use Rattle.letters.specs.declared.Letter.{Letter}
use Rattle.letters.specs.Answers.{value, refusal}
use Rattle.letters.specs.Editions.{first_edition}
use Rattle.letters.specs.Coding.{header_test, decode_header, decode_letter}
use Rattle.letters.specs.RefusalNumbers.{letter_malformed}
use Rattle.window.specs.Perform.{judge_of, perform_of}
use Rattle.window.specs.declared.Window.{Window}
use Rattle.streaming.specs.Monitor.{stepped, idle_of, fresh_monitor, start_of, moved_of, advance}
use Rattle.streaming.specs.declared.Monitor.{Monitor}
use Rattle.streaming.specs.Outcome as outcome

pub start_taken : (word : ℕ) (h : Header) → decode_header first_edition word ≡ value h → start_of word ≡ stepped outcome.Taken (fresh_monitor h)
unfolding start_of
start_taken word h e = rw e

pub start_refused : (word number place : ℕ) → decode_header first_edition word ≡ refusal number place → start_of word ≡ stepped (outcome.Refused number) idle_of
unfolding start_of
start_refused word number place e = rw e

module _ (m : Monitor) (word : ℕ) where
  pub advance_taken : (a : Letter) → decode_letter first_edition m.header word ≡ value a → advance m word ≡ stepped outcome.Taken (moved_of m a)
  unfolding advance
  advance_taken a e = rw e

  pub advance_refused : (number place : ℕ) → decode_letter first_edition m.header word ≡ refusal number place
      → advance m word ≡ stepped (outcome.Refused number) m
  unfolding advance
  advance_refused number place e = rw e

module _ (m : Monitor) (a : Letter) where
  pub moved_stopped : m.running ≡ false → moved_of m a ≡ m
  unfolding moved_of
  moved_stopped r = rw r

  pub moved_coherent : m.running ≡ true → judge_of m.window a ≡ true
      → moved_of m a ≡ record { header = m.header; window = perform_of m.window a; running = true }
  unfolding moved_of
  moved_coherent r j = rw (r, j)

  pub moved_performed : m.running ≡ true → judge_of m.window a ≡ true → (after : Window) → after ≡ perform_of m.window a
      → record { header = m.header; window = after; running = true } ≡ moved_of m a
  moved_performed r j after e = ap (λ (w : Window). record { header = m.header; window = w; running = true }) e ∙ sym (moved_coherent r j)

  pub moved_incoherent : m.running ≡ true → judge_of m.window a ≡ false → moved_of m a ≡ record { header = m.header; window = m.window; running = false }
  unfolding moved_of
  moved_incoherent r j = rw (r, j)

-- The monitor of a refused start refuses every letter.
pub idle_refuses : (word : ℕ) → advance idle_of word ≡ stepped (outcome.Refused letter_malformed) idle_of
unfolding advance decode_letter header_test
idle_refuses word = refl
