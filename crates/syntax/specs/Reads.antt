-- The reader's contract (SPEC 8, 11.3).
use Rattle.std.specs.Prelude.{◌≡◌, ◌≢◌, ℕ, List}
use Rattle.grammar.specs.Grammar.{Macro}
use Rattle.refusals.specs.Order.{Refusal}
use Rattle.refusals.specs.Accepted.{Accepted}
use Rattle.syntax.specs.declared.MacroRead.{MacroRead}
use Rattle.syntax.specs.Answer.{held_macro, no_macro}

-- What is answered for a text: the macro that it is the text of, or the refusal that the questions say. Refusal 0 is none.
-- This settles the answer (`reads-once`).
pub record Reads (text : List ℕ) (r : MacroRead) : Type 0 where
  pub accepts : (m : Macro) → Accepted text m → (r.refusal ≡ 0) × (r.place ≡ 0) × (r.program ≡ held_macro m)
  pub accepted : r.refusal ≡ 0 → (m : Macro) × Accepted text m × (r.program ≡ held_macro m)
  pub refuses : (n p : ℕ) → Refusal text n p → (r.refusal ≡ n) × (r.place ≡ p) × (r.program ≡ no_macro)
  pub refused : r.refusal ≢ 0 → Refusal text r.refusal r.place
