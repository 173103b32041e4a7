-- What the call that prints a macro in the house layout leaves: every number of the answer and every byte of the output (SPEC 8.6, 11.5).
use Rattle.std.specs.Prelude.{◌≡◌, ℕ, ◌≤◌, ◌<◌, List, [], ◌∷◌, ◌++◌, length, drop}
use Rattle.layout_theory.specs.Writing.{LayoutAnswer, printed, refused, WritesLayout}

-- How many numbers it answers.
abbrev pub layout_count : ℕ
layout_count = 3

-- refusal, place, bytes of the print
unfoldable pub layout_numbers : LayoutAnswer → List ℕ
layout_numbers (printed bytes) = 0 ∷ 0 ∷ bytes ∷ []
layout_numbers (refused number place) = number ∷ place ∷ 0 ∷ []

-- `out` and `answer` are lent; `out'` and `answer'` are what they hold afterwards. Both are settled (`LayoutCalls.one-layout`).
pub record LaysOutMacro (text out answer out' answer' : List ℕ) : Type 0 where
  -- An answer that has no room for the numbers: nothing is done.
  pub short : length answer < layout_count → (out' ≡ out) × (answer' ≡ answer)
  -- Else the print or a refusal, as the layout has it, and its numbers over the front of the answer.
  pub laid : layout_count ≤ length answer
      → (a : LayoutAnswer) × WritesLayout text out a out' × (answer' ≡ layout_numbers a ++ drop layout_count answer)
