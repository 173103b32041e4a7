-- What the writer of the house layout promises can be met.
use mathlib.Core.Path.{refl, ap}
use Prim.Native.Nat.{ℕ}
use mathlib.Core.List.{List}
use Rattle.grammar.specs.Grammar.{Macro}
use Rattle.refusals.proofs.Theory.Accepted.{Acceptance, Becomes, an_acceptance, accepted_once, never_both, refused_once}
use Rattle.layout_theory.specs.Writing.{LayoutAnswer, refused, answer_for, buffer_for, WritesLayout}

pub written_somehow : (text entry : List ℕ) → (answer : LayoutAnswer) × (exit : List ℕ) × WritesLayout text entry answer exit
written_somehow text entry = let (o, x) = an_acceptance text in go o x
  where
    go : (o : Acceptance) → Becomes text o → (answer : LayoutAnswer) × (exit : List ℕ) × WritesLayout text entry answer exit
    go (Acceptance.refused n p) r = (
      refused n p,
      entry,
      record {
        unread = λ k q s. let (e, f) = refused_once text r s in (λ i. refused (e i) (f i), refl);
        answered = λ m a. absurd (never_both text a r);
        bytes = λ m a. absurd (never_both text a r);
      },
    )
    go (Acceptance.accepted m) a = (
      answer_for m entry,
      buffer_for m entry,
      record {
        unread = λ k q s. absurd (never_both text a s);
        answered = λ k b. ap (λ (n : Macro). answer_for n entry) (accepted_once text a b);
        bytes = λ k b. ap (λ (n : Macro). buffer_for n entry) (accepted_once text a b);
      },
    )
