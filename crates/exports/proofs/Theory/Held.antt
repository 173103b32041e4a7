-- What follows from the definitions of specs/Held.antt.
use mathlib.Core.Path.{◌≡◌, sym, ◌∙◌}
use Prim.Native.Nat.{ℕ}
use mathlib.Core.List.{List, [], ◌∷◌}
use Rattle.grammar.specs.Grammar.{Macro}
use Rattle.refusals.specs.Order.{Refusal}
use Rattle.refusals.specs.Accepted.{Accepted}
use Rattle.refusals.proofs.Theory.Accepted.{Acceptance, Becomes, an_acceptance}
use Rattle.syntax.specs.Answer.{held_macro}
use Rattle.syntax.specs.Reads.{Reads}
use Rattle.syntax.specs.declared.MacroRead.{MacroRead}
use Rattle.exports.specs.Numbers.{accepted_numbers, refused_numbers, ReadsMacro}
use Rattle.exports.specs.Held.{held_numbers}

-- They are those of the macro, or of the refusal.
module _ (text : List ℕ) (a : MacroRead) (reads : Reads text a) where
  pub held_accepted : (m : Macro) → Accepted text m → held_numbers a ≡ accepted_numbers m
  unfolding held_numbers held_macro accepted_numbers
  held_accepted m k =
      let (e, f, g) = reads.accepts m k in
      λ i. e i ∷ f i ∷ (g i).header.registers ∷ (g i).header.functions ∷ (g i).count ∷ []

  pub held_refused : (number place : ℕ) → Refusal text number place → held_numbers a ≡ refused_numbers number place
  unfolding held_numbers refused_numbers
  held_refused number place r =
      let (e, f, g) = reads.refuses number place r in
      λ i. e i ∷ f i ∷ (g i).header.registers ∷ (g i).header.functions ∷ (g i).count ∷ []

-- The answer after a text was read is one.
pub one_read : (text answer a b : List ℕ) → ReadsMacro text answer a → ReadsMacro text answer b → a ≡ b
one_read text answer a b x y = let (o, k) = an_acceptance text in go o k
  where
    go : (o : Acceptance) → Becomes text o → a ≡ b
    go (Acceptance.accepted m) k = x.accepted m k ∙ sym (y.accepted m k)
    go (Acceptance.refused number place) r = x.refused number place r ∙ sym (y.refused number place r)
