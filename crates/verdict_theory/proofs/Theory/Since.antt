-- The letters that a trace has after its beginning.
use mathlib.Core.Path.{◌≡◌, refl, sym, ap, ◌∙◌}
use mathlib.Core.List.{List, [], ◌∷◌, ◌++◌, append_assoc}
use Prim.Native.Nat.{◌+◌}
use native.Mathlib.Omega.{arith}
use lib.ListN.{length}
use Rattle.letters.specs.declared.Letter.{Letter}
use Rattle.semantics.specs.Terms.{Trace, begin, ◌▸◌, extend}
use Rattle.semantics.specs.Judgement.{size as letters}
use Rattle.macros.specs.Executions.{Begins, whole, before}

extend_last : (ρ : Trace) (l : List Letter) (a : Letter) → extend ρ (l ++ a ∷ []) ≡ extend ρ l ▸ a
extend_last ρ [] a = refl
extend_last ρ (b ∷ l) a = extend_last (ρ ▸ b) l a

-- there are such letters
pub since : {ρ π : Trace} → Begins ρ π → (l : List Letter) × (π ≡ extend ρ l)
since whole = ([], refl)
since (before {ρ} {a} b) = let (l, e) = since b in (l ++ a ∷ [], ap (λ τ. τ ▸ a) e ∙ sym (extend_last ρ l a))

pub since_letters : (ρ : Trace) (l : List Letter) → letters (extend ρ l) ≡ letters ρ + length l
since_letters ρ [] = omega arith
since_letters ρ (a ∷ l) = let e = since_letters (ρ ▸ a) l in omega arith

-- and only these
spelled : Trace → List Letter
spelled (begin h) = []
spelled (ρ ▸ a) = spelled ρ ++ a ∷ []

spelled_extend : (ρ : Trace) (l : List Letter) → spelled (extend ρ l) ≡ spelled ρ ++ l
unfolding spelled
spelled_extend ρ [] = sym (append_nothing (spelled ρ))
  where
    append_nothing : (l : List Letter) → l ++ [] ≡ l
    append_nothing [] = refl
    append_nothing (a ∷ l) = ap (λ k. a ∷ k) (append_nothing l)
spelled_extend ρ (a ∷ l) = spelled_extend (ρ ▸ a) l ∙ append_assoc (spelled ρ) (a ∷ []) l

append_once : (k l m : List Letter) → k ++ l ≡ k ++ m → l ≡ m
append_once [] l m e = e
append_once (a ∷ k) l m e = append_once k l m (cc)

pub since_once : (ρ : Trace) (l m : List Letter) → extend ρ l ≡ extend ρ m → l ≡ m
since_once ρ l m e = append_once (spelled ρ) l m (sym (spelled_extend ρ l) ∙ ap spelled e ∙ spelled_extend ρ m)
