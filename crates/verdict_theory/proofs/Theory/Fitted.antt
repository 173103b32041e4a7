-- An answer with its bytes, or its refusal.
use mathlib.Core.Path.{refl}
use mathlib.Core.Logic.{inl, inr}
use mathlib.Core.List.{List, ◌++◌}
use Prim.Native.Nat.{ℕ}
use lib.ListN.{length, drop}
use Rattle.macros.proofs.Theory.Numbers.{less_or}
use Rattle.verdict_theory.specs.Verdict.{VerdictAnswer, unfit, Delivered}

-- an answer, or the refusal where it does not fit
pub fitted : (bs : List ℕ) (a : VerdictAnswer) (output : List ℕ) → (answer : VerdictAnswer) × (output' : List ℕ) × Delivered bs a output answer output'
fitted bs a output = elim (less_or (length output) (length bs))
    [ inl l ↦ (unfit, output, inr (l, refl, refl)) | inr l ↦ (a, bs ++ drop (length bs) output, inl (l, refl, refl)) ]
