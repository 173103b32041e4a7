-- Every event has at least as many letters as the first (document 01: "Executions, partial ones too, are ordered shorter first").
use mathlib.Core.Path.{◌≡◌, ap}
use mathlib.Core.Logic.{◌⊎◌, inl, inr}
use mathlib.Core.List.{List}
use Prim.Native.Nat.{ℕ, ◌+◌, ◌≤◌}
use native.Mathlib.Omega.{arith}
use lib.ListN.{length}
use Rattle.letters.specs.declared.Letter.{Letter}
use Rattle.semantics.specs.Terms.{Trace, State, extend}
use Rattle.semantics.specs.Judgement.{size as letters}
use Rattle.macros.specs.Tree.{Block}
use Rattle.macros.proofs.Theory.Order.{till_steps}
use Rattle.macros.proofs.Theory.Runs.{run_steps}
use Rattle.verdict_theory.proofs.Theory.Since.{since_letters}
use Rattle.verdict_theory.specs.Verdict.{Kind, Precedes, Event, FirstEvent, Shows}

-- What comes later has at least as many letters.
pub precedes_letters : (start : Trace) (m : Block) (ρ π : Trace) → Precedes start m ρ π → letters ρ ≤ letters π
precedes_letters start m ρ π x =
    let a = run_steps start m ρ x.path x.takes.0 x.takes.1 in
    let b = run_steps start m π x.other x.other_takes.0 x.other_takes.1 in
    let c = till_steps x.path x.other (inr x.before) in
    omega arith

module _ {ℓ} (Possible : State → Type ℓ) (start : Trace) (m : Block) where
  pub first_shortest : (ρ : Trace) → FirstEvent Possible start m ρ → (π : Trace) → Event Possible start m π → letters ρ ≤ letters π
  first_shortest ρ x π y = go (x.least π y)
    where
      go : (π ≡ ρ) ⊎ Precedes start m ρ π → letters ρ ≤ letters π
      go (inl e) = let f = ap letters e in omega arith
      go (inr p) = precedes_letters start m ρ π p

  -- So has the execution that is shown: no event has fewer letters behind the start.
  pub shown_shortest : (kind : Kind) (k : ℕ) (ls : List Letter) → Shows Possible start m kind k ls → (π : Trace) → Event Possible start m π
      → letters start + length ls ≤ letters π
  shown_shortest kind k ls s π y = let a = first_shortest (extend start ls) s.first_event π y in let b = since_letters start ls in omega arith
