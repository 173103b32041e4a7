-- What the call that prints a macro leaves, from what its own calls ensure.
use mathlib.Core.Path.{◌≡◌, refl, ap, ◌∙◌}
use Prim.Native.Nat.{ℕ, ◌≤◌, ◌<◌}
use mathlib.Core.List.{List, ◌++◌}
use lib.ListN.{length, drop}
use Rattle.layout_theory.specs.Writing.{WritesLayout}
use Rattle.layout_writer.specs.Answer.{layout_answer}
use Rattle.std.specs.Prelude.{Result}
use Rattle.letters.specs.declared.reasons.Refused.{Refused}
use Rattle.exports.specs.LayoutCalls.{layout_count, layout_numbers, LaysOutMacro}
use Rattle.exports.proofs.Laws.{too_short}

module _ (text out answer : List ℕ) where
  pub layout_short : length answer < layout_count → LaysOutMacro text out answer out answer
  layout_short s = record { short = λ _. (refl, refl); laid = λ room. absurd (too_short s room) }

  pub layout_stored : (out' stored answer' : List ℕ) (w : Result ℕ Refused) → WritesLayout text out (layout_answer w) out'
      → stored ≡ layout_numbers (layout_answer w) → length stored ≡ layout_count → layout_count ≤ length answer
      → answer' ≡ stored ++ drop (length stored) answer
      → LaysOutMacro text out answer out' answer'
  layout_stored out' stored answer' w d same full room e = record {
    short = λ s. absurd (too_short s room);
    laid = λ _. (layout_answer w, d, e ∙ rw full (ap (λ l. l ++ drop layout_count answer) same));
  }
