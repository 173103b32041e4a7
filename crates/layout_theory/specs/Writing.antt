-- What is answered for a text that is to be printed in the house layout, and what a lent buffer holds afterwards (SPEC 8.6, 11.3, 11.5).
use Rattle.std.specs.Prelude.{◌≡◌, ℕ, Bool, ◌&&◌, List, ◌++◌, leb, length, drop}
use Rattle.base.specs.Choice.{pick}
use Rattle.letters.specs.MacroRefusalNumbers.{print_too_long}
use Rattle.grammar.specs.Grammar.{Macro}
use Rattle.refusals.specs.Order.{Refusal}
use Rattle.refusals.specs.Accepted.{Accepted}
use Rattle.layout_theory.specs.Layout.{house_layout, longest_print}

-- An answer: how many bytes the print has; or a refusal, its number and its place (SPEC 8.6, 11.1).
pub data LayoutAnswer : Type 0 where
  printed : ℕ → LayoutAnswer
  refused : ℕ → ℕ → LayoutAnswer

-- "when the print passes the lent buffer or 4,096 bytes": it does neither (SPEC 8.6, 11.3)
abbrev pub print_fits : List ℕ → List ℕ → Bool
print_fits print buffer = leb (length print) (length buffer) && leb (length print) longest_print

-- What is answered for the macro m, of an accepted text, where the buffer holds `entry`: its print; or "15, given last, when the print passes the lent buffer
-- or 4,096 bytes" (SPEC 8.6, 11.3).
abbrev pub answer_for : Macro → List ℕ → LayoutAnswer
answer_for m entry = pick (print_fits (house_layout m) entry) (λ _. printed (length (house_layout m))) λ _. LayoutAnswer.refused print_too_long 0

-- What the buffer holds then: the print in front, and the bytes behind it stay; at 15 all bytes stay (SPEC 11.5).
abbrev pub buffer_for : Macro → List ℕ → List ℕ
buffer_for m entry = pick (print_fits (house_layout m) entry) (λ _. house_layout m ++ drop (length (house_layout m)) entry) λ _. entry

-- A lent buffer holds `entry` and then `exit`. (Each text is accepted as one macro or refused by one number at one place: `Accepted.exactly-one` of crate
-- `refusals`.)
pub record WritesLayout (text entry : List ℕ) (answer : LayoutAnswer) (exit : List ℕ) : Type 0 where
  -- A text that is refused, by 7 to 13 or 16: "Refused calls write no output" (SPEC 11.3, 11.5).
  pub unread : (number place : ℕ) → Refusal text number place → (answer ≡ LayoutAnswer.refused number place) × (exit ≡ entry)
  -- A text that is that of the macro m: it is printed, or it passes the buffer or the limit (SPEC 8.6, 11.5).
  pub answered : (m : Macro) → Accepted text m → answer ≡ answer_for m entry
  pub bytes : (m : Macro) → Accepted text m → exit ≡ buffer_for m entry
